use Rattle.std.proofs.Common.{◌%◌, ◌∙◌, None, rules}
use Rattle.std.proofs.lemmas.List.{set-set}
use Rattle.layers.specs.Holds.{evicted}
use Rattle.layers.proofs.hold.Hold.evict.Goals as goal
use Rattle.layers.proofs.hold.Hold.evict.Goals.{in_default-via-in-None-1, in_default-via-in-Some+else-not-is_cell}

pub returns-then-not-is_cell-clause-below : goal.returns-then-not-is_cell-clause-below
unfolding evicted
returns-then-not-is_cell-clause-below g c = c.spill.ensures.below ∙ rw (← c.in-Some.ensures, ← c.if-not-is_cell.ensures)

pub returns-then-not-is_cell-clause-rest : goal.returns-then-not-is_cell-clause-rest
returns-then-not-is_cell-clause-rest g c = λ p. rw c.spill.ensures.empty (set-set c.args.self.now.places.slots (c.args.n % 16) None p)

pub returns-in_default-clause-below : goal.returns-in_default-clause-below
unfolding evicted
returns-in_default-clause-below g c = elim c.in_default.branch [ in_default-via-in-None-1 w ↦ search rules | in_default-via-in-Some+else-not-is_cell w ↦ rw (← w.in-Some.ensures, ← w.if-not-is_cell.ensures) ]
