use Rattle.memory.proofs.Fields.{packs-apart}
use Rattle.memory.proofs.packing.pack.Goals as goal

pub returns-in_err-check-clause-apart : goal.returns-in_err-check-clause-apart
returns-in_err-check-clause-apart c = packs-apart

pub returns-clause-apart : goal.returns-clause-apart
returns-clause-apart c = packs-apart
