use Rattle.store.proofs.Histories.{goes_on}
use Rattle.store.proofs.runs.go_on.Goals as goal

pub returns-clause-law : goal.returns-clause-law
returns-clause-law g c =
    let l = g.S.ListStore in
    let s = c.args.store.now in
    let t = c.apply.new.self in
    goes_on l.says l.becomes (l.state s) (l.state t) (l.rule s) (l.rule t) c.args.call.now c.apply.result
    (g.met.S.ListStore.keeps s) c.apply.ensures.state c.apply.ensures.answer c.apply.ensures.rule
