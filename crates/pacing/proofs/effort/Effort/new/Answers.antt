use Rattle.pacing.proofs.Made.{effort_at-parts}
use Rattle.pacing.proofs.effort.Effort.new.Goals as goal

pub returns-clause-made : goal.returns-clause-made
returns-clause-made c = effort_at-parts _
