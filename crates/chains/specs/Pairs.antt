-- What a text is read as, where it is the pair of a zone.
use Rattle.std.specs.Prelude.{◌≡◌, ◌≢◌, ℕ, ◌^◌, ◌<◌, ◌⊎◌, List, ◌∷◌, ◌++◌, length, slice_index}
use Rattle.std.specs.Str.Parse.{IsNumeral, digits_value, without_leading_plus}
use Rattle.chains.specs.declared.pair.ZonePair.{ZonePair}

-- ds is one decimal digit or more, after a + or not, and writes n, which is 0 to 65,535
pub record Writes (ds : List ℕ) (n : ℕ) : Type 0 where
  pub digits : IsNumeral 10 (without_leading_plus ds)
  pub number : n ≡ digits_value 10 (without_leading_plus ds)
  pub range : n < 2 ^ 16

-- the text writes no number
abbrev pub WritesNone : List ℕ → Type 0
WritesNone ds = (n : ℕ) → ¬ Writes ds n

abbrev pub NoPlus : List ℕ → Type 0
NoPlus bs = (i : ℕ) → i < length bs → slice_index bs i ≢ 43

-- left is what stands before the text's first plus sign, and right what stands after it
pub record Parted (text left right : List ℕ) : Type 0 where
  pub whole : text ≡ left ++ (43 ∷ right)
  pub first : NoPlus left

-- the text has a plus sign, and P holds of what stands before and after its first
abbrev pub InTwo : List ℕ → (List ℕ → List ℕ → Type 0) → Type 0
InTwo text P = (left : List ℕ) × (right : List ℕ) × Parted text left right × P left right

-- an offset, a plus sign and a length
abbrev pub ReadsAs : List ℕ → ZonePair → Type 0
ReadsAs text pair = InTwo text (λ left right. Writes left pair.offset × Writes right pair.length)

-- no plus sign, or no number before its first or after it
abbrev pub ReadsNone : List ℕ → Type 0
ReadsNone text = NoPlus text ⊎ InTwo text (λ left right. WritesNone left ⊎ WritesNone right)
