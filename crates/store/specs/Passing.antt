-- Cells that a sweep leaves as they are.
use Rattle.std.specs.Prelude.{ℕ, zero, suc, ◌+◌, Bool, false, if◌then◌else◌, List, length, nat_lt}
use Rattle.bank.specs.declared.word.Cell.{Cell}
use Rattle.collector.specs.States.{at}
use Rattle.collector.specs.Turns.{is_reserved}

-- Free, and without a mark.
abbrev pub is_passed : Cell → Bool
is_passed c = if c.mark then false else is_reserved c.cdr

-- How many of the next cells from n on, up to so many, are.
abbrev pub free_run : List Cell → ℕ → ℕ → ℕ
free_run cells n zero = 0
free_run cells n (suc most) =
    if nat_lt n (length cells) then if is_passed (at cells n) then suc (free_run cells (n + 1) most) else 0 else 0
