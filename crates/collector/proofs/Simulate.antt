-- Each call comes in the store to what it comes to in the endless heap.
use Rattle.std.proofs.Common.{◌≡◌, ℕ, Bool, true, false, leb, ◌⊎◌, List, [], ◌∷◌, map, length, Some, None, Ok, Option, sym, refl, ap, ◌∙◌, subst, inl, inr, arith, rules}
use Rattle.std.proofs.lemmas.Bool.{cases_eq}
use Rattle.bank.specs.Words.{with_car, with_cdr}
use Rattle.bank.specs.Banks.{changed}
use Rattle.bank.specs.declared.word.Word.{Word}
use Rattle.bank.specs.declared.word.Cell.{Cell}
use Rattle.listcalls.specs.declared.call.Call.{Call}
use Rattle.listcalls.specs.declared.call.Answer.{Answer}
use Rattle.listcalls.specs.declared.call.Seen.{Seen}
use Rattle.collector.specs.States.{Fixed, State, at, new}
use Rattle.collector.specs.Turns.{turn, work}
use Rattle.collector.specs.Outcomes.{Outcome, After, done, answer, registers_of, absent, register, seen, same_word}
use Rattle.collector.specs.Calls.{load_if, take, read_by, replace_by, car_of, cdr_of, perform, checked, with_register}
use Rattle.collector.specs.Endless.{Pair, Endless, start, pair_at, named, first_word, second_word, with_first, with_second, feed, load_if as endless-load_if, read as endless-read, replace as endless-replace, perform as endless-perform, checked as endless-checked}
use Rattle.collector.specs.Reach.{root, via, Reachable, ReachableIn}
use Rattle.collector.specs.Runs.{Event, next, outcome, outcomes, calls_of, Collection, beginning, onward}
use Rattle.collector.specs.Laws.{Grounded, lacks, unless, remaining, fed_calls, endless_outcomes, without_work, AnswersEqual}
use Rattle.collector.proofs.Cells.{changed-here}
use Rattle.collector.proofs.Take.{filled-here}
use Rattle.collector.proofs.Turn.{Used, live_now, turn-keeps}
use Rattle.collector.proofs.Steps.{Field, car-field, cdr-field, take-takes, taken-state, asked_is, replaced-is, replaced-state, offered-heap, kept, step_keeps}
use Rattle.collector.proofs.Start.{new-keeps}
use Rattle.collector.proofs.Moves.{Moved, turn-moves}
use Rattle.collector.proofs.Agree.{rename, Agree, register-agrees, register-root, store-reaches, agree-named, seen-agrees, same-agrees}
use Rattle.collector.proofs.Append.{named-too, Fresh, agree-appended}
use Rattle.collector.proofs.Rewrite.{Alike, Twins, car-twins, cdr-twins, agree-rewritten}
use Rattle.collector.proofs.Cells.{reserved-within}
use Rattle.collector.proofs.Invariant.{Vacant, Inv}

-- A call of the store against the same call of the heap: refused for want of a cell, or the same but for the work.
abbrev pub Meets : {V : Type 0} → (ℕ → ℕ) → Endless → After (State V) V → After Endless V → Type 0
Meets f e a b =
    ((lacks a.outcome ≡ true) × Agree f e a.state)
    ⊎ ((lacks a.outcome ≡ false) × (without_work a.outcome ≡ b.outcome) × ((k : ℕ → ℕ) × Agree k b.state a.state))

-- The store may move what the heap does not see.
pub agree-moved : {V : Type 0} {f : ℕ → ℕ} {e : Endless} {s : State V} {t : State V} → Agree f e s → Moved (Reachable s) s t → Agree f e t
agree-moved g m = search (rules, store-reaches)

moved-reachable : {V : Type 0} {c : Collection V} {s : State V} {t : State V} (i : Inv c s) → Moved (Used i) s t → Moved (Reachable s) s t
moved-reachable i m = search (rules, live_now)

module _ {V : Type 0} {f : ℕ → ℕ} {e : Endless} {c : Collection V} {s : State V} (i : Inv c s) (g : Agree f e s) where
  -- A register of the heap that names a cell names a reachable one.
  names : (r x : ℕ) → register e.registers r ≡ Word.Cell x → ReachableIn e x
  names r x q = root (register-root e.registers r x q)

  load-meets : (b : Bool) (r code : ℕ) → Meets f e (load_if b r code s) (endless-load_if b r code e)
  load-meets true r code = inr (refl, refl, (f, agree-named g r (Word.Atom code) (λ x q. absurd (let z : ◌≡◌ {A = ℕ} 0 1 = cc in let bad : ⊥ = omega arith in bad))))
  load-meets false r code = search rules

  copy_meets : (r a : ℕ) → Meets f e (done (with_register r (register s.registers a) s)) (done (named r (register e.registers a) e))
  copy_meets r a =
      inr (refl, refl, (f, subst (λ (w : Word). Agree f (named r (register e.registers a) e) (with_register r w s)) (sym (register-agrees g a)) (agree-named g r (register e.registers a) (λ x q. names a x q))))

  -- Reading a field.
  read_meets : (field : Cell → Word) (part : Pair → Word) → ((x : ℕ) → ReachableIn e x → field (at s.heap.cells (f x)) ≡ rename f (part (pair_at e x)))
      → ((x y : ℕ) → ReachableIn e x → part (pair_at e x) ≡ Word.Cell y → ReachableIn e y)
      → (r a : ℕ) (w : Word) → register e.registers a ≡ w → Meets f e (read_by field (rename f w) r a s) (endless-read part w r a e)
  read_meets field part same on r a Word.Nil q = inr (refl, refl, (f, g))
  read_meets field part same on r a (Word.Cell x) q =
      let h : ReachableIn e x = names a x q in
      let within = (live_now i (f x) (store-reaches g x h)).within in
      rw (asked_is i (f x) within, same x h) (inr (refl, refl, (f, agree-named g r (part (pair_at e x)) (λ y v. on x y h v))))
  read_meets field part same on r a (Word.Atom k) q = inr (refl, refl, (f, g))
  read_meets field part same on r a Word.Reserved q = inr (refl, refl, (f, g))

  -- Replacing a field.
  module _ (field : Cell → Word) (put : Word → Cell → Cell) (fd : Field field put) (put_pair : Word → Pair → Pair) (twins : Twins put put_pair) where
    module _ (n : ℕ) (live : Used i n) (w : Word) where
      abbrev now : List Cell
      now = (offered-heap fd i n).cells

      still : length now ≡ length s.heap.cells
      still = search rules

      written : at (changed (put w) now n) n ≡ put w (at now n)
      written = search (changed-here, still)

      -- One part of the cell that is written.
      part-here : (pick : Cell → Word) (part : Pair → Word) → Alike put put_pair pick part → pick (at now n) ≡ pick (at s.heap.cells n)
          → pick (at (changed (put w) now n) n) ≡ pick (put w (at s.heap.cells n))
      part-here pick part alike same = search (rules, written)

      pub both-here : ((at (changed (put w) now n) n).car ≡ (put w (at s.heap.cells n)).car) × ((at (changed (put w) now n) n).cdr ≡ (put w (at s.heap.cells n)).cdr)
      both-here =
          let k = (kept fd i n live).grown.same in
          (part-here (λ x. x.car) (λ p. p.first) twins.firsts (k.cars n), part-here (λ x. x.cdr) (λ p. p.second) twins.seconds (k.cdrs n))

      pub both-elsewhere : (m : ℕ) → (m ≡ n → ⊥) → ((at (changed (put w) now n) m).car ≡ (at s.heap.cells m).car) × ((at (changed (put w) now n) m).cdr ≡ (at s.heap.cells m).cdr)
      both-elsewhere m ne =
          let k = (kept fd i n live).grown.same in
          let o : at (changed (put w) now n) m ≡ at now m = search rules in
          (ap (λ (x : Cell). x.car) o ∙ k.cars m, ap (λ (x : Cell). x.cdr) o ∙ k.cdrs m)

    replace_meets : (a b : ℕ) (w : Word) → register e.registers a ≡ w → Meets f e (replace_by field put (rename f w) a (register s.registers b) s) (endless-replace (put_pair (register e.registers b)) w a e)
    replace_meets a b Word.Nil q = search rules
    replace_meets a b (Word.Cell x) q =
        let h : ReachableIn e x = names a x q in
        let live : Used i (f x) = live_now i (f x) (store-reaches g x h) in
        let wb : Word = register s.registers b in
        let wx : Word = register e.registers b in
        let there = subst (λ (v : Word). ((at (replaced-state fd i (f x) wb).heap.cells (f x)).car ≡ (put v (at s.heap.cells (f x))).car) × ((at (replaced-state fd i (f x) wb).heap.cells (f x)).cdr ≡ (put v (at s.heap.cells (f x))).cdr)) (register-agrees g b) (both-here (f x) live wb) in
        rw (replaced-is fd i a b (f x) live)
        (inr (refl, refl, (f, agree-rewritten put put_pair twins f e s (replaced-state fd i (f x) wb) g x wx h (λ y v. names b y v) refl there (both-elsewhere (f x) live wb))))
    replace_meets a b (Word.Atom k) q = inr (refl, refl, (f, g))
    replace_meets a b Word.Reserved q = inr (refl, refl, (f, g))

  -- A cons, from the state after its turn.
  take_meets : (w r a b : ℕ) → Meets f e (take w r a b s) (endless-perform s.fixed.atoms e (Call.Cons r a b))
  take_meets w r a b =
      elim (cases_eq s.pool.count 0) [
        | inl z ↦ search rules
        | inr nz ↦ takes (take-takes i w r a b nz)
      ]
    where
      takes : (h : ℕ) × (rest : List ℕ) × (i.core.fs ≡ h ∷ rest) × (take w r a b s ≡ answer (taken-state r h (register s.registers a) (register s.registers b) s) (Answer.Worked w))
          → Meets f e (take w r a b s) (endless-perform s.fixed.atoms e (Call.Cons r a b))
      takes t =
          let h : ℕ = t.0 in
          let cs : List Cell = s.heap.cells in
          let vacant : Vacant cs h = search rules in
          let here = filled-here cs h (register s.registers a) (register s.registers b) (leb s.pool.sweeper h) (reserved-within cs h vacant) in
          let fresh : Fresh f e s (taken-state r h (register s.registers a) (register s.registers b) s) h (register e.registers a) (register e.registers b) = record {
            unreached = search (rules, live_now, i, f, store-reaches, g, cs, vacant);
            here = (search (rules, here, register-agrees, g, a, b));
            elsewhere = search rules;
          } in
          rw t.3 (inr (refl, refl, (named-too f (length e.pairs) h, agree-appended f e s (taken-state r h (register s.registers a) (register s.registers b) s) g h r (register e.registers a) (register e.registers b) fresh (names a) (names b) refl)))

perform-meets : {V : Type 0} {f : ℕ → ℕ} {e : Endless} {c : Collection V} {s : State V} → Inv c s → Agree f e s → (says : Bool) (k : Call V) → Meets f e (perform says s k) (endless-perform s.fixed.atoms e k)
perform-meets i g says (Call.Load r v) = search load-meets
perform-meets {f = f} i g says (Call.Clear r) = inr (refl, refl, (f, agree-named g r Word.Nil (λ x q. absurd (let z : ◌≡◌ {A = ℕ} 0 1 = cc in let bad : ⊥ = omega arith in bad))))
perform-meets i g says (Call.Copy r a) = copy_meets i g r a
perform-meets {f = f} {e = e} {s = s} i g says (Call.Cons r a b) =
    let m = turn-moves i says in
    subst (λ atoms. Meets f e (take (work s) r a b (turn says s)) (endless-perform atoms e (Call.Cons r a b))) (ap (λ fx. fx.atoms) m.fixed)
    (take_meets (turn-keeps says i) (agree-moved g (moved-reachable i m)) (work s) r a b)
perform-meets {f = f} {e = e} {s = s} i g says (Call.Car r a) =
    rw (register-agrees g a)
    (read_meets i g car_of first_word g.firsts (λ x y h v. via h (inl v)) r a (register e.registers a) refl)
perform-meets {f = f} {e = e} {s = s} i g says (Call.Cdr r a) =
    rw (register-agrees g a)
    (read_meets i g cdr_of second_word g.seconds (λ x y h v. via h (inr v)) r a (register e.registers a) refl)
perform-meets {f = f} {e = e} {s = s} i g says (Call.Rplaca a b) =
    rw (register-agrees g a)
    (replace_meets i g car_of with_car car-field with_first car-twins a b (register e.registers a) refl)
perform-meets {f = f} {e = e} {s = s} i g says (Call.Rplacd a b) =
    rw (register-agrees g a)
    (replace_meets i g cdr_of with_cdr cdr-field with_second cdr-twins a b (register e.registers a) refl)
perform-meets {V = V} {f = f} {e = e} {s = s} i g says (Call.Look r) =
    inr (refl, ap (λ (x : Seen V). Ok (Answer.Saw x)) (ap (seen s.fixed.atoms) (register-agrees g r) ∙ seen-agrees g s.fixed.atoms (register e.registers r)), (f, g))
perform-meets {V = V} {f = f} {e = e} {s = s} i g says (Call.Same a b) =
    let va : Word = register e.registers a in
    let vb : Word = register e.registers b in
    let same : same_word (register s.registers a) (register s.registers b) ≡ same_word va vb =
    ap (λ (w : Word). same_word w (register s.registers b)) (register-agrees g a)
    ∙ ap (same_word (rename f va)) (register-agrees g b)
    ∙ same-agrees g va vb (λ x q. root (register-root e.registers a x q)) (λ x q. root (register-root e.registers b x q)) in
    inr (refl, ap (λ (t : Bool). Ok (Answer.Same t)) same, (f, g))

checked-meets : {V : Type 0} (o : Option ℕ) {f : ℕ → ℕ} {e : Endless} {c : Collection V} {s : State V} → Inv c s → Agree f e s → (says : Bool) (k : Call V) → Meets f e (checked o says s k) (endless-checked o s.fixed.atoms e k)
checked-meets (Some r) {f = f} i g says k = inr (refl, refl, (f, g))
checked-meets None i g says k = perform-meets i g says k

-- A call of the store meets the same call of the heap.
pub step-meets : {V : Type 0} {f : ℕ → ℕ} {e : Endless} {c : Collection V} {s : State V} → Inv c s → Agree f e s → (v : Event V)
    → ((lacks (outcome s v) ≡ true) × Agree f e (next s v))
    ⊎ ((lacks (outcome s v) ≡ false) × (without_work (outcome s v) ≡ (feed s.fixed.atoms e v.call).outcome) × ((k : ℕ → ℕ) × Agree k (feed s.fixed.atoms e v.call).state (next s v)))
step-meets i g v = checked-meets (absent (registers_of v.call)) i g v.says v.call

-- Both start alike.
pub start-agrees : {V : Type 0} (fixed : Fixed V) (N : ℕ) → Agree (λ x. x) start (new fixed N)
start-agrees fixed N = search rules

run-equal : {V : Type 0} (f : ℕ → ℕ) (e : Endless) (c : Collection V) (s : State V) (vs : List (Event V)) → Inv c s → Agree f e s
    → map without_work (remaining (outcomes s vs)) ≡ endless_outcomes s.fixed.atoms e (fed_calls (calls_of vs) (outcomes s vs))
run-equal f e c s [] i g = refl
run-equal {V} f e c s (v ∷ vs) i g =
    let t : State V = next s v in
    let j = step_keeps i v in
    let fx : t.fixed.atoms ≡ s.fixed.atoms = search rules in
    let os : List (Outcome V) = outcomes t vs in
    elim (step-meets i g v) [
      | inl m ↦ subst (λ (b : Bool). map without_work (unless b (outcome s v) (remaining os)) ≡ endless_outcomes s.fixed.atoms e (unless b v.call (fed_calls (calls_of vs) os))) (sym m.0)
          (subst (λ atoms. map without_work (remaining os) ≡ endless_outcomes atoms e (fed_calls (calls_of vs) os)) fx (run-equal f e (onward s v c) t vs j m.1))
      | inr m ↦ subst (λ (b : Bool). map without_work (unless b (outcome s v) (remaining os)) ≡ endless_outcomes s.fixed.atoms e (unless b v.call (fed_calls (calls_of vs) os))) (sym m.0)
          (let e' : Endless = (feed s.fixed.atoms e v.call).state in
          let rest = subst (λ atoms. map without_work (remaining os) ≡ endless_outcomes atoms e' (fed_calls (calls_of vs) os)) fx (run-equal m.2.0 e' (onward s v c) t vs j m.2.1) in
          ap (λ (o : Outcome V). o ∷ map without_work (remaining os)) m.1 ∙ ap (λ (ps : List (Outcome V)). (feed s.fixed.atoms e v.call).outcome ∷ ps) rest)
    ]

pub answers-equal : {V : Type 0} (fixed : Fixed V) (N : ℕ) → Grounded fixed N → (vs : List (Event V)) → AnswersEqual fixed.atoms (calls_of vs) (outcomes (new fixed N) vs)
answers-equal fixed N g vs = run-equal (λ x. x) start (beginning (new fixed N)) (new fixed N) vs (new-keeps fixed N g) (start-agrees fixed N)
