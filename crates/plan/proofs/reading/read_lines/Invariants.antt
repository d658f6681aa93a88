use Rattle.std.proofs.Common.{length, vec_items}
use Rattle.plan.proofs.Plans.{Sofar}
use Rattle.plan.proofs.reading.read_lines.Given as goal

abbrev pub invariant-loop-lines : goal.invariant-loop-lines
invariant-loop-lines l = Sofar l.bytes (vec_items l.lines) l.text.rest.now

abbrev pub decreases-loop-lines : goal.decreases-loop-lines
decreases-loop-lines l = length l.text.rest.now
