-- What comes of making a list of calls: every call was made, or memory for the outcomes ran out and some front of the calls was made.
use Rattle.std.specs.Prelude.{ℕ, Bool, List, [], ◌∷◌, ◌++◌, take, Ok, Err, vec_items, Result, Vec}
use Rattle.std.specs.declared.alloc.Global.{Global}
use Rattle.listcalls.specs.declared.call.Call.{Call}
use Rattle.collector.specs.States.{Fixed, State}
use Rattle.collector.specs.Outcomes.{Outcome}
use Rattle.store.specs.declared.runs.RunFault.{RunFault}
use Rattle.collector.specs.Laws.{Grounded, RuledRun}

-- A run with one more call: where these calls with these outcomes, from a new store, were a run to the state before, they are one with the call.
abbrev pub GoesOn : {V R : Type 0} → (R → ℕ → Bool) → (R → ℕ → R → Type 0) → State V → R → Call V → Outcome V → State V → R → Type 0
GoesOn {V} {R} says becomes s p c o t q =
    (fixed : Fixed V) (size : ℕ) → Grounded fixed size → (rule : R) (cs : List (Call V)) (os : List (Outcome V))
    → RuledRun says becomes fixed size rule cs os s p → RuledRun says becomes fixed size rule (cs ++ c ∷ []) (os ++ o ∷ []) t q

-- Want of memory has the outcomes before the last call, and the last call's own.
abbrev pub Ran : {S V R : Type 0} → (R → ℕ → Bool) → (R → ℕ → R → Type 0) → Fixed V → ℕ → R → List (Call V) → (S → State V) → (S → R) → Result (Vec (Outcome V) Global × S) (RunFault S V) → Type 0
Ran says becomes fixed size rule calls state rule_of (Ok done) = RuledRun says becomes fixed size rule calls (vec_items done.0) (state done.1) (rule_of done.1)
Ran says becomes fixed size rule calls state rule_of (Err fault) =
    (made : ℕ) × RuledRun says becomes fixed size rule (take made calls) (vec_items fault.outcomes ++ fault.last ∷ []) (state fault.store) (rule_of fault.store)

-- The store that is handed back, in either case.
abbrev pub store_of : {S V : Type 0} → Result (Vec (Outcome V) Global × S) (RunFault S V) → S
store_of (Ok done) = done.1
store_of (Err fault) = fault.store
