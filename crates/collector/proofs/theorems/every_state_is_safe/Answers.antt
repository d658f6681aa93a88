use Rattle.collector.proofs.Laws.{every_state_safe}
use Rattle.collector.proofs.theorems.every_state_is_safe.Goals as goal

pub returns : goal.returns
returns g c = every_state_safe
