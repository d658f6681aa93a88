-- The paced rule over a whole run of questions.
use Rattle.std.proofs.Common.{◌≡◌, ℕ, List, [], ◌∷◌, refl, ap, arith}
use Rattle.pacing.specs.Paced.{paced_says, fresh, next, after, answers, noes, KeepsPace}
use Rattle.pacing.specs.declared.paced.PacedRule.{PacedRule}

-- the tally is the noes since the last yes; floor and pace stay
tallies : (r : PacedRule) (asked : List ℕ) → after r asked ≡ record { floor = r.floor; pace = r.pace; tally = noes r.tally (answers r asked) }
tallies r [] = refl
tallies r (count ∷ counts) = grind (arith, tallies (next r count) counts)

pub keeps-pace : (floor pace : ℕ) → KeepsPace floor pace
keeps-pace floor pace asked count = ap (λ r. paced_says r count) (tallies (fresh floor pace) asked)
