-- What the refusal of a plan tells.
use Rattle.std.specs.Prelude.{ℕ, List, [], ◌∷◌, ◌++◌, codes, decimal}
use Rattle.plan.specs.declared.fault.PlanFault.{PlanFault}
use Rattle.plan.specs.declared.fault.PlanFault.TheVariants.{TooLong, Malformed}

-- the line and the column, and two zeros for a plan that is too long
abbrev pub place : PlanFault → ℕ × ℕ
place TooLong = (0, 0)
place (Malformed line column) = (line, column)

-- the refusal's number, and the values that it returns
abbrev pub told : PlanFault → ℕ × List ℕ
told f = (8, (place f).0 ∷ (place f).1 ∷ [])

-- what is printed of it
abbrev pub fault_text : PlanFault → List ℕ
fault_text f = codes "fault " ++ (decimal (place f).0 ++ (codes " " ++ decimal (place f).1))
