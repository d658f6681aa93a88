-- What elements show of a change, and that a memory whose elements show cells is lawful as a bank.
use Rattle.std.specs.Prelude.{ℕ, ◌≤◌, if◌then◌else◌, List}
use Rattle.std.proofs.Common.{arith, length-take}
use Rattle.std.proofs.lemmas.List.{length-map}
use Rattle.bank.specs.declared.word.Cell.{Cell}
use Rattle.bank.specs.declared.word.Change.{Change}
use Rattle.bank.specs.Words.{word_in, with_change}
use Rattle.bank.specs.Banks.{Sound, fits}
use Rattle.memory.specs.Memories.{front, shown}

-- The largest number of 32 bits.
abbrev pub top : ℕ
top = 4294967295

-- A cell with a change made, where its word fits.
abbrev pub fitted : ℕ → Change → Cell → Cell
fitted limit change c = if fits limit (word_in change) then with_change change c else c

pub sound-memory : {X : Type 0} (limit : ℕ) (shows : X → Cell) → 4095 ≤ limit → (memory : List X) → Sound limit (shown shows memory)
unfolding front shown
sound-memory limit shows wide memory = record { few = rw (length-map, length-take) (omega arith); wide = wide }
