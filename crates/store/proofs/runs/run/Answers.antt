use Rattle.store.specs.Meaning.{fixed_by, meant}
use Rattle.store.proofs.Histories.{ran-as}
use Rattle.store.proofs.runs.run.Goals as goal

-- The store was made with this very rule.
pub returns-clause-law : goal.returns-clause-law
returns-clause-law g c =
    let b = g.B.Bank in
    let k = g.K.Kind in
    let r = g.R.StartRule in
    ran-as r.says r.becomes (fixed_by b.limit k.coded k.valued r.floor c.args.bank c.args.kind c.args.rule c.args.effort) _ c.new-store.result.rule c.args.rule c.args.calls.now
    (meant b.limit b.cells k.coded k.valued r.floor) (λ s. s.rule) c.finish.result
    c.new-store.ensures.rule (c.finish.ensures.law _ _ c.new-store.ensures.state)
