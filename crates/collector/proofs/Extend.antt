-- A run grows by one call at its end.
use Rattle.std.proofs.Common.{◌≡◌, ℕ, Bool, List, [], ◌∷◌, ◌++◌, refl, sym, ◌∙◌, ap, subst, rules}
use Rattle.listcalls.specs.declared.call.Call.{Call}
use Rattle.collector.specs.States.{Fixed, State, new}
use Rattle.collector.specs.Outcomes.{Outcome}
use Rattle.collector.specs.Runs.{Event, next, outcome, final, outcomes, calls_of, Keeps, Admissible, asks, RuleAfter, Ruled}
use Rattle.collector.specs.Laws.{Grounded, RunOf, RuledRun, RunsGrow}
use Rattle.collector.proofs.Laws.{every_run_lawful}

module _ {V : Type 0} where
  final-push : (s : State V) (es : List (Event V)) (e : Event V) → final s (es ++ e ∷ []) ≡ next (final s es) e
  final-push s [] e = refl
  final-push s (v ∷ vs) e = final-push (next s v) vs e

  outcomes-push : (s : State V) (es : List (Event V)) (e : Event V) → outcomes s (es ++ e ∷ []) ≡ outcomes s es ++ outcome (final s es) e ∷ []
  outcomes-push s [] e = refl
  outcomes-push s (v ∷ vs) e = search (outcomes-push (next s v) vs e)

  calls-push : (es : List (Event V)) (e : Event V) → calls_of (es ++ e ∷ []) ≡ calls_of es ++ e.call ∷ []
  calls-push [] e = refl
  calls-push (v ∷ vs) e = search (calls-push vs e)

  admissible-push : (s : State V) (es : List (Event V)) (e : Event V) → Admissible s es → Keeps (final s es) e.says → Admissible s (es ++ e ∷ [])
  admissible-push s [] e a k = (k, tt)
  admissible-push s (v ∷ vs) e a k = (a.0, admissible-push (next s v) vs e a.1 k)

  -- What the start rule has said so far, and once more.
  ruled-push : {R : Type 0} (says : R → ℕ → Bool) (becomes : R → ℕ → R → Type 0) (s : State V) (r p q : R) (es : List (Event V)) (e : Event V)
      → Ruled says becomes s r es p → e.says ≡ says p (final s es).pool.count → RuleAfter becomes (asks (final s es) e.call) p (final s es).pool.count q
      → Ruled says becomes s r (es ++ e ∷ []) q
  ruled-push {R} says becomes s r p q [] e ruled said turned =
      (q, said ∙ ap (λ (x : R). says x s.pool.count) ruled, subst (λ (x : R). RuleAfter becomes (asks s e.call) x s.pool.count q) ruled turned, refl)
  ruled-push says becomes s r p q (v ∷ vs) e ruled said turned =
      (ruled.0, ruled.1, ruled.2, ruled-push says becomes (next s v) ruled.0 p q vs e ruled.3 said turned)

  module _ (fixed : Fixed V) (size : ℕ) (grounded : Grounded fixed size) where
    pub run-begins : RunOf fixed size [] [] (new fixed size)
    run-begins = search rules

    pub run-extends : (cs : List (Call V)) (os : List (Outcome V)) (s : State V) → RunOf fixed size cs os s → (e : Event V) → Keeps s e.says
        → RunOf fixed size (cs ++ e.call ∷ []) (os ++ outcome s e ∷ []) (next s e)
    run-extends cs os s r e k =
        let es : List (Event V) = r.events ++ e ∷ [] in
        let a : Admissible (new fixed size) es = search (rules, admissible-push, fixed, size, r.events, e, r.admissible, e.says, r.ended, k) in
        record {
          events = es;
          made = search (rules, calls-push, e, r.made);
          answered = search (rules, outcomes-push, e, r.answered, r.ended);
          ended = search (rules, final-push, e, r.ended);
          admissible = a;
          lawful = every_run_lawful fixed size grounded es a;
        }

    -- The same under a start rule.
    module _ {R : Type 0} (says : R → ℕ → Bool) (becomes : R → ℕ → R → Type 0) (rule : R) where
      pub ruled-begins : RuledRun says becomes fixed size rule [] [] (new fixed size) rule
      unfolding run-begins
      ruled-begins = record { run = run-begins; ruled = refl }

      pub ruled-extends : (cs : List (Call V)) (os : List (Outcome V)) (s : State V) (p q : R) → RuledRun says becomes fixed size rule cs os s p → (e : Event V) → Keeps s e.says
          → e.says ≡ says p s.pool.count → RuleAfter becomes (asks s e.call) p s.pool.count q
          → RuledRun says becomes fixed size rule (cs ++ e.call ∷ []) (os ++ outcome s e ∷ []) (next s e) q
      unfolding run-extends
      ruled-extends cs os s p q r e keeps said turned =
          let back : s ≡ final (new fixed size) r.run.events = sym r.run.ended in
          record {
            run = run-extends cs os s r.run e keeps;
            ruled = ruled-push says becomes (new fixed size) rule p q r.run.events e r.ruled (said ∙ ap (λ (u : State V). says p u.pool.count) back)
                (subst (λ (u : State V). RuleAfter becomes (asks u e.call) p u.pool.count q) back turned);
          }

pub runs_grow : {V : Type 0} → RunsGrow V
runs_grow fixed size grounded = search (run-begins, run-extends)
