use Rattle.replies.proofs.Floors.{plan_lawful}
use Rattle.replies.proofs.session.serve_on.Goals as goal

pub returns-in_err-push_line-clause-lawful : goal.returns-in_err-push_line-clause-lawful
returns-in_err-push_line-clause-lawful g c = plan_lawful (g.B.Bank.limit c.args.bank) (g.B.Bank.cells c.args.bank) (g.B.Bank.sound c.args.bank) c.args.opening c.args.lines.now

pub returns-clause-lawful : goal.returns-clause-lawful
returns-clause-lawful g c = plan_lawful (g.B.Bank.limit c.args.bank) (g.B.Bank.cells c.args.bank) (g.B.Bank.sound c.args.bank) c.args.opening c.args.lines.now
