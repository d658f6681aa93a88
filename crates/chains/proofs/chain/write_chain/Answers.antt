use Rattle.std.proofs.Common.{◌≡◌, ◌≤◌, length, sym, ◌∙◌, arith}
use Rattle.std.proofs.lemmas.List.Edits.{paste_all}
use Rattle.chains.specs.Chains.{chain}
use Rattle.chains.proofs.Chaining.{chain-takes, length-chain, chain-step}
use Rattle.chains.proofs.chain.write_chain.Goals as goal

pub loop-i-preserved : goal.loop-i-preserved
loop-i-preserved g c =
    let bank = g.B.Bank in
    let b = c.args.bank.now in
    let limit = bank.limit b in
    let from = c.args.from in
    let atoms = c.args.atoms.now in
    let next = c.in_ok-next.next in
    let i = c.loop-i.i in
    let takes = chain-takes c.word_limit.result c.size.result from next atoms c.in_ok-next.ensures in
    let few : c.size.result ≤ 4096 = omega (arith, c.size.ensures, (bank.sound b).few) in
    let wide : 4095 ≤ c.word_limit.result = omega (arith, c.word_limit.ensures, (bank.sound b).wide) in
    let here = c.loop-i.invariant.0 ∙ sym c.word_limit.ensures in
    let after = rw here at c.write_cell.ensures.after in (
      c.write_cell.ensures.fixed ∙ c.loop-i.invariant.0,
      c.write_cell.ensures.beside ∙ c.loop-i.invariant.1,
      chain-step c.word_limit.result c.size.result from next atoms (bank.cells b) (bank.cells c.loop-i.bank) _ i c.cdr_of.result takes c.size.ensures few wide c.loop-i-test.true c.cdr_of.ensures c.loop-i.invariant.2 after,
    )

pub returns : goal.returns
returns g c =
    let bank = g.B.Bank in
    let b = c.args.bank.now in
    let cells = bank.cells b in
    let from = c.args.from in
    let atoms = c.args.atoms.now in
    let all : c.loop-i.i ≡ length (chain from atoms) = omega (arith, length-chain from atoms, c.loop-i-test.false, c.loop-i.auto.i-end) in
    record {
      answer = rw (c.word_limit.ensures, c.size.ensures) at c.in_ok-next.ensures;
      after = rw all at (c.loop-i.invariant.2 ∙ paste_all cells from (chain from atoms) c.loop-i.i all);
      fixed = c.loop-i.invariant.0;
      beside = c.loop-i.invariant.1;
    }
