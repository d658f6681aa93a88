use Rattle.layers.proofs.Holding.{laid_kept}
use Rattle.layers.proofs.hold.HoldBank.write_cell.Goals as goal

pub returns-in-Ok-clause-kept : goal.returns-in-Ok-clause-kept
returns-in-Ok-clause-kept g c =
    let s = c.args.self.now in
    laid_kept (g.B.Bank.limit s.below) s.places.slots (g.B.Bank.cells s.below) c.args.n c.in-Ok.seen c.in-Ok.ensures c.args.cell c.merge.result c.keep.new.self.places.slots (rw (← c.word_limit.ensures) c.merge.ensures) c.keep.ensures.kept
