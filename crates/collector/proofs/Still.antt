-- What the calls leave alone besides the turn.
use Rattle.std.proofs.Common.{◌≡◌, ℕ, ◌-◌, Bool, true, false, leb, Some, None, Option, sym, refl, subst, inl, inr, rules}
use Rattle.std.proofs.lemmas.Bool.{cases_eq}
use Rattle.bank.specs.Words.{with_car, with_cdr}
use Rattle.bank.specs.declared.word.Word.{Word}
use Rattle.bank.specs.declared.word.Cell.{Cell}
use Rattle.listcalls.specs.declared.call.Call.{Call}
use Rattle.collector.specs.Lists.{is_empty}
use Rattle.collector.specs.States.{State}
use Rattle.collector.specs.Turns.{turn, work}
use Rattle.collector.specs.Outcomes.{After, register}
use Rattle.collector.specs.Calls.{load_if, read_by, replace_by, take, car_of, cdr_of, perform, checked}
use Rattle.collector.specs.Runs.{Event, next, outcome, Collection, makes_turn, onward_in, onward_if, onward}
use Rattle.collector.specs.Laws.{lacks}
use Rattle.collector.proofs.Turn.{turn-keeps}
use Rattle.collector.proofs.Steps.{take-takes}
use Rattle.collector.proofs.Pace.{Paced, paced-calm, turn-pace}
use Rattle.collector.proofs.Invariant.{Inv}

-- A call that makes no turn leaves the phase and the pool alone, and lacks no cell.
pub record Still {V : Type 0} (s : State V) (a : After (State V) V) : Type 0 where
  pub phase : a.state.phase ≡ s.phase
  pub pool : a.state.pool ≡ s.pool
  pub fixed : a.state.fixed ≡ s.fixed
  pub waiting : is_empty s.heap.stack ≡ false → is_empty a.state.heap.stack ≡ false
  pub served : lacks a.outcome ≡ false

module _ {V : Type 0} (s : State V) where
  still-load : (b : Bool) (i code : ℕ) → Still s (load_if b i code s)
  still-load true i code = search
  still-load false i code = search

  still_read : (field : Cell → Word) (w : Word) (i a : ℕ) → Still s (read_by field w i a s)
  still_read field w i a = search rules

  still-replace : (field : Cell → Word) (put : Word → Cell → Cell) (v : Word) (a : ℕ) (w : Word) → Still s (replace_by field put v a w s)
  still-replace field put v a w = search rules

-- How a call goes: still, or as a turn and a take.
pub data Goes {V : Type 0} (s : State V) (says : Bool) (c : Collection V) : After (State V) V → Collection V → Type 0 where
  without-turn : {a : After (State V) V} → Still s a → Goes s says c a c
  with-turn : (i a b : ℕ) → Goes s says c (take (work s) i a b (turn says s)) (onward_in s.phase says s c)

perform-goes : {V : Type 0} (s : State V) (says : Bool) (c : Collection V) (k : Call V) → Goes s says c (perform says s k) (onward_if (makes_turn None k) says s c)
perform-goes s says c (Call.Load i v) = without-turn (still-load s (leb (s.fixed.atoms.coded v) s.fixed.atoms.limit) i (s.fixed.atoms.coded v))
perform-goes s says c (Call.Clear i) = without-turn (record { phase = refl; pool = refl; fixed = refl; waiting = λ e. e; served = refl })
perform-goes s says c (Call.Copy i a) = without-turn (record { phase = refl; pool = refl; fixed = refl; waiting = λ e. e; served = refl })
perform-goes s says c (Call.Cons i a b) = with-turn i a b
perform-goes s says c (Call.Car i a) = without-turn (still_read s car_of (register s.registers a) i a)
perform-goes s says c (Call.Cdr i a) = without-turn (still_read s cdr_of (register s.registers a) i a)
perform-goes s says c (Call.Rplaca a b) = without-turn (still-replace s car_of with_car (register s.registers a) a (register s.registers b))
perform-goes s says c (Call.Rplacd a b) = without-turn (still-replace s cdr_of with_cdr (register s.registers a) a (register s.registers b))
perform-goes s says c (Call.Look i) = without-turn (record { phase = refl; pool = refl; fixed = refl; waiting = λ e. e; served = refl })
perform-goes s says c (Call.Same i j) = without-turn (record { phase = refl; pool = refl; fixed = refl; waiting = λ e. e; served = refl })

checked-goes : {V : Type 0} (o : Option ℕ) (s : State V) (says : Bool) (c : Collection V) (k : Call V) → Goes s says c (checked o says s k) (onward_if (makes_turn o k) says s c)
checked-goes (Some r) s says c k = without-turn (record { phase = refl; pool = refl; fixed = refl; waiting = λ e. e; served = refl })
checked-goes None s says c k = perform-goes s says c k

pub step-goes : {V : Type 0} (s : State V) (e : Event V) (c : Collection V) → Goes s e.says c (record { state = next s e; outcome = outcome s e }) (onward s e c)
step-goes s e c = search (rules, checked-goes)

-- A take leaves all but the count and the cells.
pub record Took {V : Type 0} (s : State V) (a : After (State V) V) : Type 0 where
  pub phase : a.state.phase ≡ s.phase
  pub sweeper : a.state.pool.sweeper ≡ s.pool.sweeper
  pub fixed : a.state.fixed ≡ s.fixed
  pub stack : a.state.heap.stack ≡ s.heap.stack
  pub gone : (s.pool.count ≡ 0 → ⊥) → (lacks a.outcome ≡ false) × (a.state.pool.count ≡ s.pool.count - 1)

pub take-took : {V : Type 0} {c : Collection V} {s : State V} → Inv c s → (w r a b : ℕ) → Took s (take w r a b s)
take-took {V = V} {s = s} i w r a b =
    elim (cases_eq s.pool.count 0) [
      | inl e ↦ search rules
      | inr ne ↦ subst (Took s) (sym (take-takes i w r a b ne).3) (record { phase = refl; sweeper = refl; fixed = refl; stack = refl; gone = λ n. (refl, refl) })
    ]

-- The pace is kept by every call.
goes-pace : {V : Type 0} (s : State V) (says : Bool) (c : Collection V) (a : After (State V) V) (d : Collection V) → Goes s says c a d → Inv c s → Inv d a.state → Paced c s → Paced d a.state
goes-pace s says c a d (without-turn st) i j p = search rules
goes-pace s says c a d (with-turn r x y) i j p =
    let t : State _ = turn says s in
    let k = turn-keeps says i in
    let tk = take-took k (work s) r x y in
    paced-calm d t a.state (record {
      phase = tk.phase;
      sweeper = tk.sweeper;
      fixed = tk.fixed;
      size_same = search rules;
      waiting = search rules;
    }) (turn-pace says i p)

pub step-pace : {V : Type 0} {c : Collection V} {s : State V} → Inv c s → (e : Event V) → Inv (onward s e c) (next s e) → Paced c s → Paced (onward s e c) (next s e)
step-pace {c = c} {s = s} i e j p = goes-pace s e.says c (record { state = next s e; outcome = outcome s e }) (onward s e c) (step-goes s e c) i j p
