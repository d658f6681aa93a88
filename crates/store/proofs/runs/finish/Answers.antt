use Rattle.std.proofs.Common.{◌+◌, [], ◌∷◌, ◌++◌, vec_items, sym, refl, ◌∙◌}
use Rattle.std.proofs.lemmas.List.{take_all}
use Rattle.store.proofs.Histories.{grounded-new, run_none, run-next, run-as}
use Rattle.store.proofs.runs.finish.Goals as goal

pub loop-call-init : goal.loop-call-init
loop-call-init g c =
    let l = g.S.ListStore in
    let m = l.state c.args.store in
    let ground = g.met.S.ListStore.grounded c.args.store in (
      λ fixed size e. run-as l.says l.becomes fixed size (l.rule c.args.store) m (l.rule c.args.store) [] [] [] (vec_items c.new-outcomes.result) refl (sym c.new-outcomes.ensures.items)
          (run_none l.says l.becomes fixed size (l.rule c.args.store) (grounded-new fixed size m e ground) m e),
      refl,
      refl,
    )

pub loop-call-preserved : goal.loop-call-preserved
loop-call-preserved g c =
    let l = g.S.ListStore in
    let t = c.go_on-outcome.new.store in
    let ground = g.met.S.ListStore.grounded c.args.store in (
      λ fixed size e. run-next l.says l.becomes fixed size (l.rule c.args.store) c.args.calls.now c.loop-call.call-index
          (vec_items c.loop-call.outcomes) (vec_items c.push.new.self) (l.state t) (l.rule t) c.call-item.result c.go_on-outcome.result
          c.loop-call-test.true c.call-item.is c.in_default.ensures.items
          (c.go_on-outcome.ensures.law fixed size (grounded-new fixed size (l.state c.args.store) e ground) (l.rule c.args.store) _ _ (c.loop-call.invariant.0 fixed size e)),
      c.go_on-outcome.ensures.kind ∙ c.loop-call.invariant.1,
      c.go_on-outcome.ensures.beside ∙ c.loop-call.invariant.2,
    )

pub returns-in-Err-clause-law : goal.returns-in-Err-clause-law
returns-in-Err-clause-law g c =
    let l = g.S.ListStore in
    let t = c.go_on-outcome.new.store in
    let ground = g.met.S.ListStore.grounded c.args.store in
    let p = c.in-Err.ensures in
    λ fixed size e. (
      c.loop-call.call-index + 1,
      run-next l.says l.becomes fixed size (l.rule c.args.store) c.args.calls.now c.loop-call.call-index
          (vec_items c.loop-call.outcomes) (vec_items c.push.new.self ++ c.in-Err.refused.value ∷ []) (l.state t) (l.rule t) c.call-item.result c.go_on-outcome.result
          c.loop-call-test.true c.call-item.is
          (rw (p.items, p.value_returned) refl)
          (c.go_on-outcome.ensures.law fixed size (grounded-new fixed size (l.state c.args.store) e ground) (l.rule c.args.store) _ _ (c.loop-call.invariant.0 fixed size e)),
    )

pub returns-clause-law : goal.returns-clause-law
returns-clause-law g c =
    λ fixed size e. run-as _ _ fixed size _ _ _ _ _ _ _ (take_all c.loop-call.call-index c.args.calls.now c.loop-call-test.false) refl (c.loop-call.invariant.0 fixed size e)
