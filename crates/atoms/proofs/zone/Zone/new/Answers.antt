use Rattle.atoms.specs.Laws.{zone_at-parts}
use Rattle.atoms.proofs.zone.Zone.new.Goals as goal

pub returns-clause-made : goal.returns-clause-made
returns-clause-made c = zone_at-parts _
