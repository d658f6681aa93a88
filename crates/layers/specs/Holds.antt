-- Cells kept in 16 places over a list of cells. Place i is for the cells n with n mod 16 = i; it keeps a cell with its row, n div 16.
use Rattle.std.specs.Prelude.{◌≡◌, ℕ, suc, ◌+◌, ◌*◌, ◌/◌, ◌%◌, if◌then◌else◌, Option, None, Some, List, [], ◌∷◌, length, replicate, ◌==◌, slice_index_or, refl}
use Rattle.std.proofs.Common.{ap}
use Rattle.bank.specs.declared.word.Cell.{Cell}
use Rattle.bank.specs.Banks.{Sound, changed, merged}
use Rattle.layers.specs.declared.hold.Hold.{Hold}
use Rattle.layers.specs.declared.places.Kept.{Kept}

unfoldable pub none_kept : List (Option Kept)
none_kept = replicate 16 None

-- What the place of cell n keeps once the cell is in it.
abbrev pub kept_for : ℕ → Cell → Option Kept
kept_for n cell = Some (record { row = n / 16; cell = cell })

-- What a place lets see of cell n, given the cell below.
abbrev pub seen_at : ℕ → Option Kept → ℕ → Cell → Cell
seen_at limit None n below = below
seen_at limit (Some kept) n below = if kept.row == n / 16 then merged limit kept.cell below else below

abbrev pub seen : ℕ → List (Option Kept) → ℕ → Cell → Cell
seen limit places n below = seen_at limit (slice_index_or places (n % 16) None) n below

-- The cells below, from number n on, overwritten by those that are kept.
abbrev pub held_from : ℕ → List (Option Kept) → ℕ → List Cell → List Cell
held_from limit places n [] = []
held_from limit places n (x ∷ xs) = seen limit places n x ∷ held_from limit places (suc n) xs

unfoldable pub held : ℕ → List (Option Kept) → List Cell → List Cell
held limit places below = held_from limit places 0 below

-- What a hold shows, by the limit and the cells of the bank below.
abbrev pub hold_cells : {B : Type 0} → (B → ℕ) → (B → List Cell) → Hold B → List Cell
hold_cells limit cells h = held (limit h.below) h.places.slots (cells h.below)

-- The cells below once place i is written to them.
unfoldable pub spilled : ℕ → Option Kept → ℕ → List Cell → List Cell
spilled limit None i below = below
spilled limit (Some kept) i below = changed (merged limit kept.cell) below (kept.row * 16 + i)

-- The same, where the place keeps a cell of another number than n.
unfoldable pub evicted : ℕ → Option Kept → ℕ → List Cell → List Cell
evicted limit None n below = below
evicted limit (Some kept) n below = if kept.row == n / 16 then below else spilled limit (Some kept) (n % 16) below

length_from : (limit : ℕ) (places : List (Option Kept)) (n : ℕ) (below : List Cell) → length (held_from limit places n below) ≡ length below
length_from limit places n [] = refl
length_from limit places n (x ∷ xs) = ap suc (length_from limit places (suc n) xs)

pub length-held : (limit : ℕ) (places : List (Option Kept)) (below : List Cell) → length (held limit places below) ≡ length below
unfolding held
length-held limit places below = length_from limit places 0 below

pub sound-hold : (places : List (Option Kept)) {limit : ℕ} {below : List Cell} → Sound limit below → Sound limit (held limit places below)
sound-hold places h = record { few = rw length-held h.few; wide = h.wide }
