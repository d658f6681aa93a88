use Rattle.worked.proofs.Table.{worked, bound-tested}
use Rattle.worked.proofs.worked_cases_hold.Goals as goal

pub returns : goal.returns
returns c = record { table = worked; bound = bound-tested }
