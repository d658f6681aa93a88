-- What a line holds.
use Rattle.std.specs.Prelude.{◌≡◌, ℕ, ◌^◌, ◌<◌, List, ◌∷◌, ◌++◌, length, Ok, Err, codes, Result, ◌≢◌, slice_index}
use Rattle.std.specs.Str.Parse.{IsNumeral, digits_value, without_leading_plus}
use Rattle.zonesheet.specs.declared.line.LineFault.{LineFault}
use Rattle.zonesheet.specs.declared.line.LineFault.TheVariants.{NotText, NotTwo, Offset, Length}

-- ds is one decimal digit or more, after a + or not, and writes n, which is 0 to 4,294,967,295
pub record Writes (ds : List ℕ) (n : ℕ) : Type 0 where
  pub digits : IsNumeral 10 (without_leading_plus ds)
  pub number : n ≡ digits_value 10 (without_leading_plus ds)
  pub range : n < 2 ^ 32

-- the text writes no number
abbrev pub WritesNone : List ℕ → Type 0
WritesNone ds = (n : ℕ) → ¬ Writes ds n

abbrev pub NoSpace : List ℕ → Type 0
NoSpace bs = (i : ℕ) → i < length bs → slice_index bs i ≢ 32

-- left is what stands before the line's first space, and right what stands after it
pub record Parted (line left right : List ℕ) : Type 0 where
  pub whole : line ≡ left ++ (32 ∷ right)
  pub first : NoSpace left

-- the line has a space, and P holds of what stands before and after its first
abbrev pub InTwo : List ℕ → (List ℕ → List ℕ → Type 0) → Type 0
InTwo line P = (left : List ℕ) × (right : List ℕ) × Parted line left right × P left right

-- what a line is read as, by case
abbrev pub ReadsPair : List ℕ → Result (ℕ × ℕ) LineFault → Type 0
ReadsPair line (Ok p) = InTwo line (λ left right. Writes left p.0 × Writes right p.1)
ReadsPair line (Err NotText) = ⊥
ReadsPair line (Err NotTwo) = NoSpace line
ReadsPair line (Err Offset) = InTwo line (λ left right. WritesNone left)
ReadsPair line (Err Length) = InTwo line (λ left right. ((n : ℕ) × Writes left n) × WritesNone right)

-- what is said of a line that holds no two numbers
abbrev pub why : LineFault → List ℕ
why NotText = codes "not text"
why NotTwo = codes "an offset, a space and a length are wanted"
why Offset = codes "the offset is no number from 0 to 4294967295"
why Length = codes "the length is no number from 0 to 4294967295"
