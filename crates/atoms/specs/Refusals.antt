-- What a refusal tells, and how it is written.
use Rattle.std.specs.Prelude.{ℕ, List, [], ◌∷◌, ◌++◌, codes, decimal}
use Rattle.atoms.specs.declared.fault.ZoneFault.{ZoneFault}
use Rattle.atoms.specs.declared.fault.ZoneFault.TheVariants.{NotAZone}

-- a refusal's number, and the values that it returns
abbrev pub told : ZoneFault → ℕ × List ℕ
told (NotAZone offset length) = (4, offset ∷ length ∷ [])

-- each number in decimal, a space before each
abbrev pub spaced : List ℕ → List ℕ
spaced [] = []
spaced (n ∷ ns) = codes " " ++ (decimal n ++ spaced ns)

-- the words of a refusal, as `refused 4 65535 2`
abbrev pub spoken : ℕ × List ℕ → List ℕ
spoken t = codes "refused" ++ spaced (t.0 ∷ t.1)
