use Rattle.std.proofs.Common.{rules}
use Rattle.zonesheet.proofs.answers.answer.Goals as goal

pub returns : goal.returns
returns c = ((c.in_ok-offset.offset, c.in_ok-offset.length), c.in_ok-offset.ensures, search rules)
