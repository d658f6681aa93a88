use Rattle.layers.proofs.Windowing.{whole_framed}
use Rattle.layers.proofs.window.WindowBank.write_cell.Goals as goal

pub returns-in-Ok-clause-framed : goal.returns-in-Ok-clause-framed
returns-in-Ok-clause-framed g c =
    let s = c.args.self.now in
    whole_framed (g.B.Bank.limit s.below) s.offset s.len (g.B.Bank.cells s.below) _ c.args.n c.in-Ok.m c.args.cell c.in-Ok.ensures c.write_cell.ensures.after
