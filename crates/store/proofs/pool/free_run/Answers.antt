use Rattle.std.proofs.Common.{sym, ◌∙◌, arith}
use Rattle.store.proofs.Sweeps.{run-more}
use Rattle.store.proofs.pool.free_run.Goals as goal

pub loop-next-preserved : goal.loop-next-preserved
loop-next-preserved g c = (
  omega arith,
  omega arith,
  run-more (g.B.Bank.cells c.args.bank.now) c.args.n c.loop-next.next c.args.most c.in-Ok.cell (sym c.cell.ensures ∙ c.in-Ok.is) (sym c.is_passed.ensures ∙ c.if-not-is_passed.false) c.loop-next.invariant.0 (omega arith) c.loop-next.invariant.2,
)
