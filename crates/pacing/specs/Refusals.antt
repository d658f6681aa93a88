-- What a refusal tells.
use Rattle.std.specs.Prelude.{ℕ, List, [], ◌∷◌, ◌++◌, codes, decimal}
use Rattle.pacing.specs.declared.fault.EffortFault.{EffortFault}
use Rattle.pacing.specs.declared.fault.EffortFault.TheVariants.{OutOfRange}

-- a refusal's number, and the values that it returns
abbrev pub told : EffortFault → ℕ × List ℕ
told (OutOfRange k1 k2) = (3, k1 ∷ k2 ∷ [])

-- how it is written, as `refused 3 65 1`
abbrev pub text_of_fault : EffortFault → List ℕ
text_of_fault (OutOfRange k1 k2) = codes "refused " ++ (decimal 3 ++ (codes " " ++ (decimal k1 ++ (codes " " ++ decimal k2))))
