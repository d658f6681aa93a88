use Rattle.std.proofs.Common.{ap}
use Rattle.pacing.specs.Floors.{floor_of}
use Rattle.replies.proofs.Floors.{stays}
use Rattle.replies.proofs.serving.serve_line.Goals as goal

pub returns-in_ok-call-in-Ok-clause-floor : goal.returns-in_ok-call-in-Ok-clause-floor
returns-in_ok-call-in-Ok-clause-floor g c = ap floor_of (stays _ _ _ _ c.go_on.ensures.rule)
