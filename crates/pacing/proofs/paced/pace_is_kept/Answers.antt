use Rattle.pacing.proofs.Pace.{keeps-pace}
use Rattle.pacing.proofs.paced.pace_is_kept.Goals as goal

pub returns : goal.returns
returns c = keeps-pace _ _
