use Rattle.atoms.specs.Laws.{aspects-law, has_value}
use Rattle.atoms.proofs.aspects.AspectsKind.value.Goals as goal

pub returns-in-256-to-511 : goal.returns-in-256-to-511
returns-in-256-to-511 c = has_value aspects-law _ c.args.code c.held.ensures

pub returns-in-512-to-767 : goal.returns-in-512-to-767
returns-in-512-to-767 c = has_value aspects-law _ c.args.code c.occupied.ensures
