-- The paced rule.
use Rattle.std.specs.Prelude.{◌≡◌, ℕ, ◌+◌, Bool, true, false, if◌then◌else◌, ◌||◌, List, [], ◌∷◌, nat_le}
use Rattle.std.proofs.lemmas.Bool.{le-leb, or_left}
use Rattle.pacing.specs.Rules.{LawfulRule}
use Rattle.pacing.specs.declared.paced.PacedRule.{PacedRule}

abbrev pub paced_floor : PacedRule → ℕ
paced_floor r = r.floor

-- yes to the counts up to the floor, and to any count once it has said no as often as its pace
abbrev pub paced_says : PacedRule → ℕ → Bool
paced_says r count = nat_le count r.floor || nat_le r.pace r.tally

-- a new rule, which has not said no yet
abbrev pub fresh : ℕ → ℕ → PacedRule
fresh floor pace = record { floor = floor; pace = pace; tally = 0 }

-- the rule after it was asked: a yes begins the tally anew, a no adds one
abbrev pub next : PacedRule → ℕ → PacedRule
next r count = record { floor = r.floor; pace = r.pace; tally = if paced_says r count then 0 else r.tally + 1 }

abbrev pub paced_becomes : PacedRule → ℕ → PacedRule → Type 0
paced_becomes r count after = after ≡ next r count

pub paced-law : (r : PacedRule) → LawfulRule (paced_floor r) (paced_says r)
paced-law r count low = or_left (nat_le count r.floor) (nat_le r.pace r.tally) (le-leb count r.floor low)

-- the rule after it was asked with these counts, one after another
abbrev pub after : PacedRule → List ℕ → PacedRule
after r [] = r
after r (count ∷ counts) = after (next r count) counts

-- its answers on the way
abbrev pub answers : PacedRule → List ℕ → List Bool
answers r [] = []
answers r (count ∷ counts) = paced_says r count ∷ answers (next r count) counts

-- how often no was said since the last yes, with n of them before these answers
abbrev pub noes : ℕ → List Bool → ℕ
noes n [] = n
noes n (true ∷ answers) = noes 0 answers
noes n (false ∷ answers) = noes (n + 1) answers

-- whatever it was asked before, a rule of this floor and pace says yes exactly to the counts up to the floor, and to any
-- count where it has said no as often as its pace since it was made or last said yes
abbrev pub KeepsPace : ℕ → ℕ → Type 0
KeepsPace floor pace =
    (asked : List ℕ) (count : ℕ) → paced_says (after (fresh floor pace) asked) count ≡ (nat_le count floor || nat_le pace (noes 0 (answers (fresh floor pace) asked)))
