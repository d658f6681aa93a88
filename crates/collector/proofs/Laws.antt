-- The laws of every run.
use Rattle.std.proofs.Common.{◌≡◌, ℕ, ◌-◌, ◌≤◌, Bool, true, false, List, [], ◌∷◌, Some, None, Ok, Err, Option, sym, refl, ap, ◌∙◌, subst, inl, inr, arith, rules}
use Rattle.std.proofs.lemmas.Bool.{cases_eq, both_ways}
use Rattle.bank.specs.declared.word.Word.{Word}
use Rattle.bank.specs.declared.word.Cell.{Cell}
use Rattle.listcalls.specs.declared.call.Call.{Call}
use Rattle.listcalls.specs.declared.call.Answer.{Answer}
use Rattle.listcalls.specs.declared.fault.StoreFault.{StoreFault}
use Rattle.listcalls.specs.declared.phase.Phase.{Phase}
use Rattle.collector.specs.Lists.{Each, AtMost}
use Rattle.collector.specs.States.{Fixed, Atoms, State, at, size, new, roots}
use Rattle.collector.specs.Turns.{turn, work}
use Rattle.collector.specs.Outcomes.{Outcome, After, register}
use Rattle.collector.specs.Calls.{replace_by, take, perform, checked}
use Rattle.collector.specs.Endless.{Endless, start, feed}
use Rattle.collector.specs.Reach.{Reachable, ReachableIn, Free}
use Rattle.collector.specs.Runs.{Event, next, outcome, final, outcomes, calls_of, Keeps, Admissible, Collection, beginning, onward_in, onward}
use Rattle.collector.specs.Laws.{Grounded, lacks_by, lacks, fed_calls, Within, turns_for, Enough, NeverLacks, FreedExactly, Reclaims, EveryRunLawful, Safe, EveryStateSafe, Unharmed, RefusalsHarmless, Brief, CollectionsBrief, FreeUntilTaken}
use Rattle.collector.proofs.Sets.{few-below, each_at}
use Rattle.collector.proofs.Chains.{listed-is}
use Rattle.collector.proofs.Ceilings.{turns-bound}
use Rattle.collector.proofs.Turn.{Used, live_now, free-is, in-sweep, turn-keeps, is_free}
use Rattle.collector.proofs.Steps.{Field, car-field, cdr-field, replaced-is, take-lacks, take-takes, register-sound, step_keeps}
use Rattle.collector.proofs.Start.{new-keeps, linked-length, linked-vacant}
use Rattle.collector.proofs.Follow.{free-follows}
use Rattle.collector.proofs.Moves.{turn-moves, next-fixed, next-size}
use Rattle.collector.proofs.Collections.{collections-each}
use Rattle.collector.proofs.Agree.{Agree, bound-carries}
use Rattle.collector.proofs.Simulate.{step-meets, start-agrees, answers-equal}
use Rattle.collector.proofs.Pace.{Paced}
use Rattle.collector.proofs.Stock.{StockedIn, turn-stock, marks-few, sweeps-full}
use Rattle.collector.proofs.Still.{Goes, without-turn, with-turn, step-goes, take-took, step-pace}
use Rattle.collector.proofs.Invariant.{Sound, Phased, Inv}

-- A new store has its pace and its stock.
new-paced : {V : Type 0} (fixed : Fixed V) (N : ℕ) → Grounded fixed N → Paced (beginning (new fixed N)) (new fixed N)
new-paced fixed N g =
    let i = new-keeps fixed N g in
    record {
      once = tt;
      were = tt;
      free-count = search (rules, listed-is, fixed, i.core.fs, i.core.listed, i.core.listed.counted);
      paced = (search rules);
    }

-- A finished collection freed exactly what was neither reachable nor free when it began.
exact : {V : Type 0} {c : Collection V} {s : State V} → Inv c s → s.phase ≡ Phase.Idle → FreedExactly c
exact {c = c} {s = s} i e =
    let q = subst (λ (ph : Phase). Phased ph (Reachable c.began) (Free c.began) c.began.heap.cells (roots c.began) c.scanned_cells s.heap s.pool.sweeper) e i.phased in
    let here : s.pool.sweeper ≡ size c.began = q.0 ∙ sym i.same_size in
    record {
      once = i.core.log.once;
      only = λ n m. let o = i.core.log.only n m in (let b = o.0 in omega arith, o.1, o.2);
      all = search rules;
    }

reclaims : {V : Type 0} (fixed : Fixed V) (N : ℕ) → Grounded fixed N → (es : List (Event V)) → Reclaims (new fixed N) es
reclaims fixed N g es = search (collections-each, exact, new-keeps, new-paced)

-- A call under the starvation bound is not refused for want of a cell, and leaves the stock as it should be.
goes-stock : {V : Type 0} (A : ℕ) (s : State V) (says : Bool) (c : Collection V) (a : After (State V) V) (d : Collection V) → Goes s says c a d → Inv c s → Paced c s
    → Enough A s.fixed.k1 s.fixed.k2 s.fixed.floor (size s) → AtMost A (Reachable s) → Keeps s says → StockedIn s.phase A s.fixed.floor c s.pool.count
    → (lacks a.outcome ≡ false) × StockedIn a.state.phase A s.fixed.floor d a.state.pool.count
goes-stock A s says c a d (without-turn st) i p en b k stock = search rules
goes-stock A s says c a d (with-turn r x y) i p en b k stock =
    let t : State _ = turn says s in
    let o = turn-stock i p en says b k stock in
    let tk = take-took (turn-keeps says i) (work s) r x y in
    let g = tk.gone (λ z. let l = o.0 in let bad : ⊥ = omega arith in bad) in (
      g.0,
      subst (λ (n : ℕ). StockedIn a.state.phase A s.fixed.floor d n) (sym g.1) (subst (λ (ph : Phase). StockedIn ph A s.fixed.floor d (t.pool.count - 1)) (sym tk.phase) o.1),
    )

within-now : {V : Type 0} (A : ℕ) (atoms : Atoms V) (e : Endless) (cs : List (Call V)) → Within A atoms e cs → AtMost A (ReachableIn e)
within-now A atoms e [] w = w
within-now A atoms e (c ∷ cs) w = w.0

run-never : {V : Type 0} (A : ℕ) (f : ℕ → ℕ) (e : Endless) (c : Collection V) (s : State V) (vs : List (Event V)) → Inv c s → Paced c s → Agree f e s
    → Enough A s.fixed.k1 s.fixed.k2 s.fixed.floor (size s) → StockedIn s.phase A s.fixed.floor c s.pool.count → Admissible s vs
    → Within A s.fixed.atoms e (fed_calls (calls_of vs) (outcomes s vs)) → Each (λ o. lacks o ≡ false) (outcomes s vs)
run-never A f e c s [] i p g en stock ad w = tt
run-never {V} A f e c s (v ∷ vs) i p g en stock ad w =
    let t : State V = next s v in
    let d : Collection V = onward s v c in
    let j = step_keeps i v in
    let fx : t.fixed ≡ s.fixed = next-fixed i v in
    let sz : size t ≡ size s = next-size i v in
    let bound : AtMost A (Reachable s) = bound-carries g A (within-now A s.fixed.atoms e (fed_calls (calls_of (v ∷ vs)) (outcomes s (v ∷ vs))) w) in
    let one = goes-stock A s v.says c (record { state = t; outcome = outcome s v }) d (step-goes s v c) i p en bound ad.0 stock in
    let fed : Within A s.fixed.atoms e (v.call ∷ fed_calls (calls_of vs) (outcomes t vs)) = search rules in
    let en' : Enough A t.fixed.k1 t.fixed.k2 t.fixed.floor (size t) = search rules in
    let stock' : StockedIn t.phase A t.fixed.floor d t.pool.count = search rules in
    elim (step-meets i g v) [
      | inl m ↦ search rules
      | inr m ↦
          let e' : Endless = (feed s.fixed.atoms e v.call).state in
          (one.0, run-never A m.2.0 e' d t vs j (step-pace i v j p) m.2.1 en' stock' ad.1 (subst (λ (x : Fixed V). Within A x.atoms e' (fed_calls (calls_of vs) (outcomes t vs))) (sym fx) fed.1))
    ]

never-lacks : {V : Type 0} (fixed : Fixed V) (N : ℕ) → Grounded fixed N → (es : List (Event V)) → Admissible (new fixed N) es → NeverLacks fixed N (calls_of es) (outcomes (new fixed N) es)
never-lacks fixed N g es ad A w en =
    let i = new-keeps fixed N g in
    let len : size (new fixed N) ≡ N = linked-length 0 N in
    run-never A (λ x. x) start (beginning (new fixed N)) (new fixed N) es i (new-paced fixed N g) (start-agrees fixed N)
    (subst (Enough A fixed.k1 fixed.k2 fixed.floor) (sym len) en)
    (let r = en.room in omega arith) ad w

pub every_run_lawful : {V : Type 0} → EveryRunLawful V
every_run_lawful fixed N g es ad = search (answers-equal, reclaims, never-lacks)

-- Every state of a run has the invariant.
run-keeps : {V : Type 0} (c : Collection V) (s : State V) → Inv c s → (es : List (Event V)) → (d : Collection V) × Inv d (final s es)
run-keeps c s i [] = (c, i)
run-keeps c s i (e ∷ es) = run-keeps (onward s e c) (next s e) (step_keeps i e) es

safe : {V : Type 0} {c : Collection V} {s : State V} → Inv c s → Safe s
safe {s = s} i =
    let is = listed-is s.heap.cells s.pool.head s.pool.count i.core.fs i.core.listed in
    record {
      inside = λ n r. (live_now i n r).within;
      owned = λ n r f. (live_now i n r).used (free-is i n f);
      once = search rules;
      counted = search rules;
      ahead = search (rules, in-sweep, i, live_now);
    }

pub every_state_safe : {V : Type 0} → EveryStateSafe V
every_state_safe fixed N g es = let r = run-keeps (beginning (new fixed N)) (new fixed N) (new-keeps fixed N g) es in safe r.1

pub free_until_taken : {V : Type 0} → FreeUntilTaken V
free_until_taken = record {
  made = λ fixed N g n l. is_free (new-keeps fixed N g) n (linked-vacant 0 N n l);
  kept = λ fixed N g es e. let r = run-keeps (beginning (new fixed N)) (new fixed N) (new-keeps fixed N g) es in free-follows r.1 e;
}

-- A call that lacks a cell made its turn, and nothing more.
record Lost {V : Type 0} (s : State V) (a : After (State V) V) : Type 0 where
  registers : a.state.registers ≡ s.registers
  words : (n : ℕ) → Reachable s n → ((at a.state.heap.cells n).car ≡ (at s.heap.cells n).car) × ((at a.state.heap.cells n).cdr ≡ (at s.heap.cells n).cdr)

goes-lost : {V : Type 0} (s : State V) (says : Bool) (c : Collection V) (a : After (State V) V) (d : Collection V) → Goes s says c a d → Inv c s → lacks a.outcome ≡ true → Lost s a
goes-lost s says c a d (without-turn st) i e = search rules
goes-lost {V} s says c a d (with-turn r x y) i e =
    let t : State V = turn says s in
    let j = turn-keeps says i in
    let m = turn-moves i says in
    elim (cases_eq t.pool.count 0) [
      | inl z ↦ subst (Lost s) (sym (take-lacks j (work s) r x y z)) (record { registers = m.registers; words = λ n h. m.words n (live_now i n h) })
      | inr ne ↦ absurd (both_ways (lacks a.outcome) ((take-took j (work s) r x y).gone ne).0 e)
    ]

-- Any other refusal leaves the state.
abbrev Spared : {V : Type 0} → State V → After (State V) V → Type 0
Spared s a = (fault : StoreFault) → a.outcome ≡ Err fault → lacks_by fault ≡ false → a.state ≡ s

spared-ok : {V : Type 0} (s t : State V) (x : Answer V) → Spared s (record { state = t; outcome = Ok x })
spared-ok s t x fault e l = search

module _ {V : Type 0} {c : Collection V} {s : State V} (i : Inv c s) where
  holds-live : (a n : ℕ) → register s.registers a ≡ Word.Cell n → Used i n
  holds-live a n e = subst (Sound s.fixed.atoms.limit (Used i)) e (register-sound i a)

  spared-replace : (field : Cell → Word) (put : Word → Cell → Cell) → Field field put → (a b : ℕ) (w : Word) → register s.registers a ≡ w → Spared s (replace_by field put w a (register s.registers b) s)
  spared-replace field put f a b Word.Nil e = λ fault q l. refl
  spared-replace field put f a b (Word.Cell n) e = rw (replaced-is f i a b n (holds-live a n e)) (spared-ok s _ Answer.Done)
  spared-replace field put f a b (Word.Atom k) e = λ fault q l. refl
  spared-replace field put f a b Word.Reserved e = λ fault q l. refl

spared-take : {V : Type 0} (c : Collection V) (s t : State V) → Inv c t → (w r a b : ℕ) → Spared s (take w r a b t)
spared-take {V} c s t i w r a b =
    elim (cases_eq t.pool.count 0) [
      | inl z ↦ search rules
      | inr ne ↦ subst (Spared s) (sym (take-takes i w r a b ne).3) (spared-ok s _ (Answer.Worked w))
    ]
  where
    lost : (fault : StoreFault) → ◌≡◌ {A = Outcome V} (Err (StoreFault.NoFreeCell w)) (Err fault) → lacks_by fault ≡ true
    lost fault e = let q : StoreFault.NoFreeCell w ≡ fault = cc in ap lacks_by (sym q)

spared-perform : {V : Type 0} {c : Collection V} {s : State V} → Inv c s → (says : Bool) (k : Call V) → Spared s (perform says s k)
spared-perform i says (Call.Load r v) = search rules
spared-perform {s = s} i says (Call.Clear r) = spared-ok s _ Answer.Done
spared-perform {s = s} i says (Call.Copy r a) = spared-ok s _ Answer.Done
spared-perform {c = c} {s = s} i says (Call.Cons r a b) = spared-take (onward_in s.phase says s c) s (turn says s) (turn-keeps says i) (work s) r a b
spared-perform i says (Call.Car r a) = search rules
spared-perform i says (Call.Cdr r a) = search rules
spared-perform i says (Call.Rplaca a b) = search (spared-replace, car-field)
spared-perform i says (Call.Rplacd a b) = search (spared-replace, cdr-field)
spared-perform {s = s} i says (Call.Look r) = spared-ok s s _
spared-perform {s = s} i says (Call.Same a b) = spared-ok s s _

spared-checked : {V : Type 0} (o : Option ℕ) {c : Collection V} {s : State V} → Inv c s → (says : Bool) (k : Call V) → Spared s (checked o says s k)
spared-checked (Some r) i says k = λ fault e l. refl
spared-checked None i says k = spared-perform i says k

unharmed : {V : Type 0} {c : Collection V} {s : State V} → Inv c s → (e : Event V) → Unharmed s e
unharmed {V = V} {c = c} {s = s} i e =
    let a : After (State V) V = record { state = next s e; outcome = outcome s e } in
    record {
      registers = search rules;
      words = λ l. (goes-lost s e.says c a (onward s e c) (step-goes s e c) i l).words;
      rest = search (rules, spared-checked, i);
    }

pub refusals_harmless : {V : Type 0} → RefusalsHarmless V
refusals_harmless fixed N g es e = let r = run-keeps (beginning (new fixed N)) (new fixed N) (new-keeps fixed N g) es in unharmed r.1 e

-- The length of a collection.
brief : {V : Type 0} {c : Collection V} {s : State V} (b : Bool) → Inv c s → Paced c s → Brief (b, c)
brief {c = c} {s = s} b i p =
    let N : ℕ = size c.began in
    let sz : size c.began ≡ size s = i.same_size in
    let all : AtMost N (Reachable c.began) = search (rules, few-below, i.core.past.inside, each_at, c.began) in
    let m : c.mark_turns ≤ turns_for N s.fixed.k1 = marks-few i.grounded.scans_some p N all in
    let w : c.sweep_turns ≤ turns_for (size s) s.fixed.k2 = turns-bound c.sweep_turns s.fixed.k2 (size s) i.grounded.sweeps_some (sweeps-full s.phase c s p.paced) in
    let m' : c.mark_turns ≤ turns_for N c.began.fixed.k1 = search rules in
    let w' : c.sweep_turns ≤ turns_for N c.began.fixed.k2 = search rules in
    omega arith

pub collections_brief : {V : Type 0} → CollectionsBrief V
collections_brief fixed N g es = search (collections-each, brief, new-keeps, new-paced)
