use Rattle.std.proofs.Common.{◌≡◌, ◌≤◌, length, sym, ap, ◌∙◌, arith}
use Rattle.collector.specs.States.{linked}
use Rattle.store.proofs.Links.{link-more, link-length, link-all}
use Rattle.store.proofs.link.link.Goals as goal

pub loop-n-preserved : goal.loop-n-preserved
loop-n-preserved g c =
    let law = g.B.Bank.sound c.loop-n.bank in
    let len : length (g.B.Bank.cells c.loop-n.bank) ≡ c.size-size.result = c.loop-n.invariant.1 ∙ sym c.size-size.ensures in
    let few : c.size-size.result ≤ 4096 = omega (arith, law.few) in (
      link-more c.size-size.result c.loop-n.n (g.B.Bank.limit c.loop-n.bank) (g.B.Bank.cells c.loop-n.bank) (g.B.Bank.cells c.write_cell.new.self) c.first_of.result
          c.loop-n-test.true len few law.wide c.first_of.ensures c.write_cell.ensures.after c.loop-n.invariant.0,
      link-length (g.B.Bank.limit c.loop-n.bank) _ _ c.loop-n.n c.first_of.result c.write_cell.ensures.after ∙ c.loop-n.invariant.1,
      c.write_cell.ensures.fixed ∙ c.loop-n.invariant.2,
      c.write_cell.ensures.beside ∙ c.loop-n.invariant.3,
    )

pub returns-clause-after : goal.returns-clause-after
returns-clause-after g c =
    let len : length (g.B.Bank.cells c.loop-n.bank) ≡ c.size-size.result = c.loop-n.invariant.1 ∙ sym c.size-size.ensures in
    link-all c.size-size.result (g.B.Bank.cells c.loop-n.bank) len (λ k l. c.loop-n.invariant.0 k (omega (arith, c.loop-n-test.false))) ∙ ap (linked 0) c.size-size.ensures
