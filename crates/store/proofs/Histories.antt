-- A run and one more call.
use Rattle.std.specs.Prelude.{Result, Vec}
use Rattle.std.specs.declared.alloc.Global.{Global}
use Rattle.std.proofs.Common.{◌≡◌, ℕ, ◌+◌, ◌<◌, Bool, List, [], ◌∷◌, ◌++◌, length, get_or, take, refl, sym, ap, ◌∙◌, subst}
use Rattle.std.proofs.lemmas.List.{take_more}
use Rattle.listcalls.specs.declared.call.Call.{Call}
use Rattle.collector.specs.States.{Fixed, State, new, size}
use Rattle.collector.specs.Outcomes.{Outcome}
use Rattle.collector.specs.Calls.{call_under}
use Rattle.collector.specs.Runs.{Keeps, RuleAfter, asks}
use Rattle.collector.specs.Laws.{Grounded, RuledRun}
use Rattle.collector.proofs.Extend.{ruled-begins, ruled-extends}
use Rattle.collector.proofs.Start.{linked-length}
use Rattle.store.specs.declared.runs.RunFault.{RunFault}
use Rattle.store.specs.Results.{GoesOn, Ran}

module _ {V R : Type 0} (says : R → ℕ → Bool) (becomes : R → ℕ → R → Type 0) (fixed : Fixed V) (N : ℕ) (rule : R) where
  -- A new store has made no call.
  pub run_none : Grounded fixed N → (s : State V) → s ≡ new fixed N → RuledRun says becomes fixed N rule [] [] s rule
  run_none ground s e = subst (λ (u : State V). RuledRun says becomes fixed N rule [] [] u rule) (sym e) (ruled-begins fixed N ground says becomes rule)

  run_more : Grounded fixed N → (cs : List (Call V)) (os : List (Outcome V)) (s t : State V) (p q : R) (c : Call V) (o : Outcome V)
      → RuledRun says becomes fixed N rule cs os s p → Keeps s (says p s.pool.count) → t ≡ (call_under says p s c).state → o ≡ (call_under says p s c).outcome
      → RuleAfter becomes (asks s c) p s.pool.count q → RuledRun says becomes fixed N rule (cs ++ c ∷ []) (os ++ o ∷ []) t q
  run_more ground cs os s t p q c o r keeps et eo turned =
      subst (λ (u : State V). RuledRun says becomes fixed N rule (cs ++ c ∷ []) (os ++ o ∷ []) u q) (sym et)
      (subst (λ (x : Outcome V). RuledRun says becomes fixed N rule (cs ++ c ∷ []) (os ++ x ∷ []) (call_under says p s c).state q) (sym eo)
      (ruled-extends fixed N ground says becomes rule cs os s p q r (record { call = c; says = says p s.pool.count }) keeps refl turned))

  -- The same run, with the lists as they are wanted.
  pub run-as : (s : State V) (p : R) (cs ds : List (Call V)) (os ps : List (Outcome V)) → cs ≡ ds → os ≡ ps
      → RuledRun says becomes fixed N rule cs os s p → RuledRun says becomes fixed N rule ds ps s p
  run-as s p cs ds os ps e f r =
      subst (λ (xs : List (Outcome V)). RuledRun says becomes fixed N rule ds xs s p) f (subst (λ (xs : List (Call V)). RuledRun says becomes fixed N rule xs os s p) e r)

  -- One more of a list of calls.
  pub run-next : (cs : List (Call V)) (i : ℕ) (os ps : List (Outcome V)) (s : State V) (p : R) (c : Call V) (o : Outcome V)
      → i < length cs → c ≡ get_or cs i c → ps ≡ os ++ o ∷ []
      → RuledRun says becomes fixed N rule (take i cs ++ c ∷ []) (os ++ o ∷ []) s p → RuledRun says becomes fixed N rule (take (i + 1) cs) ps s p
  run-next cs i os ps s p c o l here more r =
      let front : take (i + 1) cs ≡ take i cs ++ c ∷ [] = take_more cs i c l ∙ ap (λ (x : Call V). take i cs ++ x ∷ []) (sym here) in
      run-as s p (take i cs ++ c ∷ []) (take (i + 1) cs) (os ++ o ∷ []) ps (sym front) (sym more) r

-- Every call of a store goes on with its run.
pub goes_on : {V R : Type 0} (says : R → ℕ → Bool) (becomes : R → ℕ → R → Type 0) (s t : State V) (p q : R) (c : Call V) (o : Outcome V)
    → Keeps s (says p s.pool.count) → t ≡ (call_under says p s c).state → o ≡ (call_under says p s c).outcome → RuleAfter becomes (asks s c) p s.pool.count q
    → GoesOn says becomes s p c o t q
goes_on says becomes s t p q c o keeps et eo turned fixed size ground rule cs os r =
    run_more says becomes fixed size rule ground cs os s t p q c o r keeps et eo turned

-- What came of a list of calls, where the start rule has another name.
pub ran-as : {S V R : Type 0} (says : R → ℕ → Bool) (becomes : R → ℕ → R → Type 0) (fixed : Fixed V) (N : ℕ) (p q : R) (cs : List (Call V)) (state : S → State V) (rule_of : S → R)
    (r : Result (Vec (Outcome V) Global × S) (RunFault S V)) → p ≡ q → Ran says becomes fixed N p cs state rule_of r → Ran says becomes fixed N q cs state rule_of r
ran-as says becomes fixed N p q cs state rule_of r e h = subst (λ x. Ran says becomes fixed N x cs state rule_of r) e h

pub grounded-new : {V : Type 0} (fixed : Fixed V) (N : ℕ) (s : State V) → s ≡ new fixed N → Grounded s.fixed (size s) → Grounded fixed N
grounded-new {V} fixed N s e r = subst (λ (n : ℕ). Grounded fixed n) (linked-length 0 N) (subst (λ (u : State V). Grounded u.fixed (size u)) e r)
