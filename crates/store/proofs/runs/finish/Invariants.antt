use Rattle.std.proofs.Common.{◌≡◌, ℕ, take, vec_items}
use Rattle.collector.specs.States.{Fixed, new}
use Rattle.collector.specs.Laws.{RuledRun}
use Rattle.store.proofs.runs.finish.Given as goal

-- The calls so far are a lawful run.
abbrev pub invariant-loop-call : goal.invariant-loop-call
invariant-loop-call g l =
    ((fixed : Fixed _) (size : ℕ) → g.S.ListStore.state l.initial.store ≡ new fixed size → RuledRun g.S.ListStore.says g.S.ListStore.becomes fixed size (g.S.ListStore.rule l.initial.store) (take l.call-index l.calls) (vec_items l.outcomes) (g.S.ListStore.state l.store) (g.S.ListStore.rule l.store))
    × (g.S.ListStore.kind l.store ≡ g.S.ListStore.kind l.initial.store)
    × (g.S.ListStore.beside l.store ≡ g.S.ListStore.beside l.initial.store)
