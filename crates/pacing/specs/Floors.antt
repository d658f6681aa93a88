-- The floor rule.
use Rattle.std.specs.Prelude.{◌≡◌, ℕ, Bool, nat_le}
use Rattle.std.proofs.lemmas.Bool.{le-leb}
use Rattle.pacing.specs.Rules.{LawfulRule}
use Rattle.pacing.specs.declared.floor.FloorRule.{FloorRule}

abbrev pub floor_of : FloorRule → ℕ
floor_of r = r.floor

-- yes to the counts up to the floor, and to no other
abbrev pub floor_says : FloorRule → ℕ → Bool
floor_says r count = nat_le count r.floor

-- asking changes nothing
abbrev pub floor_becomes : FloorRule → ℕ → FloorRule → Type 0
floor_becomes r count after = after ≡ r

pub floor-law : (r : FloorRule) → LawfulRule (floor_of r) (floor_says r)
floor-law r count low = le-leb count r.floor low
