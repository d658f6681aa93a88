-- What holds of a collection at each of its turns holds of every collection of a run.
use Rattle.std.proofs.Common.{◌≡◌, Bool, true, false, List, [], ◌∷◌, rules}
use Rattle.listcalls.specs.declared.phase.Phase.{Phase}
use Rattle.collector.specs.Lists.{Each}
use Rattle.collector.specs.States.{State}
use Rattle.collector.specs.Runs.{Event, next, Collection, onward, ended, collections_from}
use Rattle.collector.proofs.Invariant.{Inv}
use Rattle.collector.proofs.Pace.{Paced}
use Rattle.collector.proofs.Steps.{step_keeps}
use Rattle.collector.proofs.Still.{step-pace}

module _ {V : Type 0} (P : Bool × Collection V → Type 0) where
  ended-each : (a b : Phase) (c : Collection V) (rest : List (Bool × Collection V)) → (b ≡ Phase.Idle → P (true, c)) → Each P rest → Each P (ended a b c rest)
  ended-each a b c rest f h = search rules

  pub collections-each : ((c : Collection V) (s : State V) → Inv c s → Paced c s → P (false, c) × (s.phase ≡ Phase.Idle → P (true, c)))
      → (c : Collection V) (s : State V) (es : List (Event V)) → Inv c s → Paced c s → Each P (collections_from c s es)
  collections-each f c s [] i p = search rules
  collections-each f c s (e ∷ es) i p =
      let j = step_keeps i e in
      let q = step-pace i e j p in
      ended-each s.phase (next s e).phase (onward s e c) (collections_from (onward s e c) (next s e) es) (f (onward s e c) (next s e) j q).1 (collections-each f (onward s e c) (next s e) es j q)
