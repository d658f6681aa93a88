use Rattle.collector.proofs.Extend.{runs_grow}
use Rattle.collector.proofs.theorems.runs_grow.Goals as goal

pub returns : goal.returns
returns g c = runs_grow
