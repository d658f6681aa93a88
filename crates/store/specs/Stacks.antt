-- The waiting stack as a list of numbers, the latest first.
use Rattle.std.specs.Prelude.{ℕ, zero, suc, List, [], ◌∷◌, Some, None, Option, slice_index}

-- The first n of the numbers, from the last of them back.
abbrev pub backwards : ℕ → List ℕ → List ℕ
backwards zero ms = []
backwards (suc n) ms = slice_index ms n ∷ backwards n ms

abbrev pub first : List ℕ → Option ℕ
first [] = None
first (n ∷ ns) = Some n

abbrev pub popped : List ℕ → List ℕ
popped [] = []
popped (n ∷ ns) = ns
