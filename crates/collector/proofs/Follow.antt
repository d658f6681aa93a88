-- The free cells, from call to call: those before, and those freed, but for the one taken.
use Rattle.std.proofs.Common.{◌≡◌, ℕ, zero, suc, ◌<◌, Bool, true, false, ltb, leb, ◌⊎◌, List, [], ◌∷◌, ◌++◌, length, Some, None, Option, Ok, Err, Result, if◌then◌else◌, sym, refl, ap, ◌∙◌, subst, inl, inr, arith, rules}
use Rattle.std.proofs.lemmas.Bool.{cases_eq, cases_Bool, ltb-true}
use Rattle.bank.specs.Words.{with_car, with_cdr, with_mark}
use Rattle.bank.specs.Banks.{fits, changed, word_put}
use Rattle.bank.specs.declared.word.Word.{Word}
use Rattle.bank.specs.declared.word.Cell.{Cell}
use Rattle.listcalls.specs.declared.call.Call.{Call}
use Rattle.listcalls.specs.declared.call.Answer.{Answer}
use Rattle.listcalls.specs.declared.phase.Phase.{Phase}
use Rattle.collector.specs.Lists.{Mem}
use Rattle.bank.specs.declared.fault.BankFault.{BankFault}
use Rattle.bank.specs.Banks.{asked}
use Rattle.listcalls.specs.declared.fault.StoreFault.{StoreFault}
use Rattle.collector.specs.States.{State, at}
use Rattle.collector.specs.Outcomes.{After, Outcome, refuse, done, registers_of, absent, register}
use Rattle.collector.specs.Calls.{load_if, take, read_from, read_by, replace_by, car_of, cdr_of, perform, checked}
use Rattle.collector.specs.Laws.{Taken, FreeFollows}
use Rattle.collector.proofs.Take.{filled-plain, filled-here, filled-other}
use Rattle.collector.proofs.Steps.{Field, car-field, cdr-field, register-sound, take-lacks, take-takes, names, kept, offered-heap, replaced-state, replaced-is, replaced-keeps, step_keeps}
use Rattle.collector.specs.Turns.{Ground, is_reserved, treat, sweep_if, sweep, sweeps, frees_if, frees, freed, freed_in, turn_in, turn, work}
use Rattle.collector.proofs.Cells.{reserved-within, changed-length, changed-here, changed-other, reads_same, put-fits}
use Rattle.collector.proofs.Sets.{mem-left, mem-right, mem-either}
use Rattle.collector.proofs.Turn.{Used, begun-marked, mark-marked, turn-keeps, free-is, is_free}
use Rattle.collector.specs.Runs.{Event, Collection, makes_turn}
use Rattle.collector.proofs.Invariant.{Vacant, Sound, Listed, Inv}

-- The vacant cells of ds are those of cs, and fr.
record Opens (cs ds : List Cell) (fr : List ℕ) : Type 0 where
  only : (n : ℕ) → Vacant ds n → Vacant cs n ⊎ Mem n fr
  all : (n : ℕ) → Vacant cs n ⊎ Mem n fr → Vacant ds n

same-opens : (cs ds : List Cell) → ((n : ℕ) → (at ds n).cdr ≡ (at cs n).cdr) → Opens cs ds []
same-opens cs ds e = record { only = λ n v. inl (sym (e n) ∙ v); all = λ n h. elim h [ inl v ↦ e n ∙ v | inr m ↦ absurd m ] }

opens-trans : (cs ds es : List Cell) (fr more : List ℕ) → Opens cs ds fr → Opens ds es more → Opens cs es (fr ++ more)
opens-trans cs ds es fr more p q = record {
  only = λ n v. elim (q.only n v) [
    | inl w ↦ elim (p.only n w) [ inl x ↦ inl x | inr m ↦ inr (mem-left n fr more m) ]
    | inr m ↦ inr (mem-right n fr more m)
  ];
  all = λ n h. elim h [
    | inl x ↦ q.all n (inl (p.all n (inl x)))
    | inr m ↦ elim (mem-either n fr more m) [ inl a ↦ q.all n (inl (p.all n (inr a))) | inr b ↦ q.all n (inr b) ]
  ];
}

-- A cell of the bank made the head of the free list.
freed-opens : (limit : ℕ) (cs : List Cell) (p : ℕ) (head : Word) → p < length cs → Opens cs (word_put with_cdr limit (word_put with_car limit cs p head) p Word.Reserved) (p ∷ [])
freed-opens limit cs p head l =
    let bs : List Cell = word_put with_car limit cs p head in
    let cdrs : (n : ℕ) → (at bs n).cdr ≡ (at cs n).cdr =
    (λ n. elim (cases_Bool (fits limit head)) [ inl t ↦ rw t (reads_same (λ c. c.cdr) (with_car head) (λ c. refl) cs p n) | inr t ↦ rw t refl ]) in
    let len : length bs ≡ length cs = elim (cases_Bool (fits limit head)) [ inl t ↦ rw t (changed-length (with_car head) cs p) | inr t ↦ rw t refl ] in
    let put : word_put with_cdr limit bs p Word.Reserved ≡ changed (with_cdr Word.Reserved) bs p = put-fits with_cdr limit bs p Word.Reserved (omega arith) in
    let here = ap (λ (x : Cell). x.cdr) (changed-here (with_cdr Word.Reserved) bs p (omega arith)) in
    let other : (n : ℕ) → (n ≡ p → ⊥) → (at (changed (with_cdr Word.Reserved) bs p) n).cdr ≡ (at cs n).cdr = (λ n ne. ap (λ (x : Cell). x.cdr) (changed-other (with_cdr Word.Reserved) bs p n ne) ∙ cdrs n) in
    subst (λ (ds : List Cell). Opens cs ds (p ∷ [])) (sym put) (record {
      only = λ n v. elim (cases_eq n p) [ inl e ↦ inr (inl e) | inr ne ↦ inl (sym (other n ne) ∙ v) ];
      all = λ n h. elim (cases_eq n p) [
        | inl e ↦ rw e here
        | inr ne ↦ elim h [ inl v ↦ other n ne ∙ v | inr m ↦ elim m [ inl e ↦ absurd (ne e) | inr x ↦ absurd x ] ]
      ];
    })

treat-opens : (marked free : Bool) (limit p : ℕ) (g : Ground) → p < length g.cells → Opens g.cells (treat marked free limit p g).cells (frees_if true marked free p)
treat-opens true free limit p g l = same-opens g.cells (changed (with_mark false) g.cells p) (reads_same (λ c. c.cdr) (with_mark false) (λ c. refl) g.cells p)
treat-opens false true limit p g l = same-opens g.cells g.cells (λ n. refl)
treat-opens false false limit p g l = freed-opens limit g.cells p g.pool.head l

sweep-opens : (within : Bool) (limit : ℕ) (g : Ground) → ltb g.pool.sweeper (length g.cells) ≡ within
    → Opens g.cells (sweep_if within limit g).cells (frees_if within (at g.cells g.pool.sweeper).mark (is_reserved (at g.cells g.pool.sweeper).cdr) g.pool.sweeper)
sweep-opens true limit g e = treat-opens (at g.cells g.pool.sweeper).mark (is_reserved (at g.cells g.pool.sweeper).cdr) limit g.pool.sweeper g (ltb-true g.pool.sweeper (length g.cells) e)
sweep-opens false limit g e = same-opens g.cells g.cells (λ n. refl)

sweeps-opens : (limit k : ℕ) (g : Ground) → Opens g.cells (sweeps limit k g).cells (freed limit k g)
sweeps-opens limit zero g = same-opens g.cells g.cells (λ n. refl)
sweeps-opens limit (suc k) g =
    opens-trans g.cells (sweep limit g).cells (sweeps limit k (sweep limit g)).cells (frees g) (freed limit k (sweep limit g))
    (sweep-opens (ltb g.pool.sweeper (length g.cells)) limit g refl) (sweeps-opens limit k (sweep limit g))

-- A turn.
module _ {V : Type 0} {c : Collection V} {s : State V} (i : Inv c s) where
  turn-opens : (ph : Phase) (says : Bool) → s.phase ≡ ph → Opens s.heap.cells (turn_in ph says s).heap.cells (freed_in ph s)
  turn-opens Phase.Idle true e = same-opens s.heap.cells _ (begun-marked i e).grown.same.cdrs
  turn-opens Phase.Idle false e = same-opens s.heap.cells s.heap.cells (λ n. refl)
  turn-opens Phase.Mark says e = same-opens s.heap.cells _ (mark-marked i e).grown.same.cdrs
  turn-opens Phase.Sweep says e = sweeps-opens s.fixed.atoms.limit s.fixed.k2 (record { cells = s.heap.cells; pool = s.pool })

abbrev is_worked : {V : Type 0} → Outcome V → Bool
is_worked (Ok Answer.Done) = false
is_worked (Ok (Answer.Worked w)) = true
is_worked (Ok (Answer.Saw seen)) = false
is_worked (Ok (Answer.Same same)) = false
is_worked (Err fault) = false

named : {n h : ℕ} → Word.Cell n ≡ Word.Cell h → n ≡ h
named e = search rules

-- After a call that made the state `turned` of its turn, and freed fr.
record Followed {V : Type 0} (s turned : State V) (fr : List ℕ) (a : After (State V) V) : Type 0 where
  only : (n : ℕ) → Vacant a.state.heap.cells n → (Vacant s.heap.cells n ⊎ Mem n fr) × (Taken a.outcome turned n → ⊥)
  all : (n : ℕ) → Vacant s.heap.cells n ⊎ Mem n fr → (Taken a.outcome turned n → ⊥) → Vacant a.state.heap.cells n
  was : (n : ℕ) → Taken a.outcome turned n → Vacant s.heap.cells n ⊎ Mem n fr

-- A call that takes no cell.
quiet : {V : Type 0} (s turned : State V) (fr : List ℕ) (a : After (State V) V) → Opens s.heap.cells a.state.heap.cells fr → ((work : ℕ) → a.outcome ≡ Ok (Answer.Worked work) → ⊥) → Followed s turned fr a
quiet s turned fr a o never = record {
  only = λ n v. (o.only n v, λ t. never t.work t.answered);
  all = λ n h k. o.all n h;
  was = λ n t. absurd (never t.work t.answered);
}

not-worked : {V : Type 0} (o : Outcome V) → is_worked o ≡ false → (work : ℕ) → o ≡ Ok (Answer.Worked work) → ⊥
not-worked (Ok Answer.Done) e work q = search rules
not-worked (Ok (Answer.Worked w)) e work q = search rules
not-worked (Ok (Answer.Saw seen)) e work q = search rules
not-worked (Ok (Answer.Same same)) e work q = search rules
not-worked (Err fault) e work q = search rules

still-cells : {V : Type 0} (s turned : State V) (a : After (State V) V) → a.state.heap.cells ≡ s.heap.cells → is_worked a.outcome ≡ false → Followed s turned [] a
still-cells s turned a e never = quiet s turned [] a (subst (λ (ds : List Cell). Opens s.heap.cells ds []) (sym e) (same-opens s.heap.cells s.heap.cells (λ n. refl))) (not-worked a.outcome never)

-- A cons, from the state after its turn.
module _ {V : Type 0} {c : Collection V} {t : State V} (j : Inv c t) (s : State V) (fr : List ℕ) (o : Opens s.heap.cells t.heap.cells fr) (work r a b : ℕ) where
  lacks-follows : t.pool.count ≡ 0 → Followed s t fr (take work r a b t)
  lacks-follows z = subst (Followed s t fr) (sym (take-lacks j work r a b z)) (quiet s t fr (refuse t (StoreFault.NoFreeCell work)) o (λ w q. search rules))

  takes-follows : (t.pool.count ≡ 0 → ⊥) → Followed s t fr (take work r a b t)
  takes-follows ne =
      let k = take-takes j work r a b ne in
      let h : ℕ = k.0 in
      let listed = subst (λ (fs : List ℕ). Listed t.heap.cells t.pool.head t.pool.count fs) k.2 j.core.listed in
      let at_head : t.pool.head ≡ Word.Cell h = listed.links.0 in
      let vacant : Vacant t.heap.cells h = listed.vacant h (inl refl) in
      let m : Bool = leb t.pool.sweeper h in
      let x : Word = register t.registers a in
      let y : Word = register t.registers b in
      let ds : List Cell = filled-plain t.heap.cells h x y m in
      let here : (at ds h).cdr ≡ y = ap (λ (e : Cell). e.cdr) (filled-here t.heap.cells h x y m (reserved-within t.heap.cells h vacant)) in
      let other : (n : ℕ) → (n ≡ h → ⊥) → (at ds n).cdr ≡ (at t.heap.cells n).cdr = (λ n q. ap (λ (e : Cell). e.cdr) (filled-other t.heap.cells h x y m n q)) in
      let sound : y ≡ Word.Reserved → ⊥ = (λ q. subst (Sound t.fixed.atoms.limit (Used j)) q (register-sound j b)) in
      subst (Followed s t fr) (sym k.3) (record {
        only = λ n v. elim (cases_eq n h) [
          | inl e ↦ absurd (sound (sym here ∙ rw e at v))
          | inr ne ↦ (o.only n (sym (other n ne) ∙ v), λ tk. ne (named (sym tk.head ∙ at_head)))
        ];
        all = λ n q never. elim (cases_eq n h) [
          | inl e ↦ absurd (never (record { work = work; answered = refl; head = rw e at_head }))
          | inr ne ↦ other n ne ∙ o.all n q
        ];
        was = λ n tk. o.only n (rw (named (sym tk.head ∙ at_head)) vacant);
      })

  cons-follows : Followed s t fr (take work r a b t)
  cons-follows = elim (cases_eq t.pool.count 0) [ inl z ↦ lacks-follows z | inr ne ↦ takes-follows ne ]

module _ {V : Type 0} {c : Collection V} {s : State V} (i : Inv c s) where
  load-follows : (b : Bool) (r code : ℕ) (t : State V) → Followed s t [] (load_if b r code s)
  load-follows true r code t = still-cells s t (load_if true r code s) refl refl
  load-follows false r code t = still-cells s t (load_if false r code s) refl refl

  read-from-follows : (field : Cell → Word) (r : ℕ) (q : Result Cell BankFault) (t : State V) → Followed s t [] (read_from field q r s)
  read-from-follows field r (Ok x) t = still-cells s t (read_from field (Ok x) r s) refl refl
  read-from-follows field r (Err fault) t = still-cells s t (read_from field (Err fault) r s) refl refl

  read-follows : (field : Cell → Word) (r a : ℕ) (w : Word) (t : State V) → Followed s t [] (read_by field w r a s)
  read-follows field r a Word.Nil t = still-cells s t (read_by field Word.Nil r a s) refl refl
  read-follows field r a (Word.Cell n) t = read-from-follows field r (asked s.heap.cells n) t
  read-follows field r a (Word.Atom k) t = still-cells s t (read_by field (Word.Atom k) r a s) refl refl
  read-follows field r a Word.Reserved t = still-cells s t (read_by field Word.Reserved r a s) refl refl

  -- A cell whose word is replaced is in use before and after.
  replaced-opens : (field : Cell → Word) (put : Word → Cell → Cell) (f : Field field put) (a b n : ℕ) (e : register s.registers a ≡ Word.Cell n)
      → Opens s.heap.cells (replaced-state f i n (register s.registers b)).heap.cells []
  replaced-opens field put f a b n e =
      let live = names i a n e in
      let after = replaced-keeps f i n live (register s.registers b) (register-sound i b) in
      let still = names after a n e in
      let cells : List Cell = (offered-heap f i n).cells in
      let other : (m : ℕ) → (m ≡ n → ⊥) → (at (changed (put (register s.registers b)) cells n) m).cdr ≡ (at s.heap.cells m).cdr =
      (λ m ne. ap (λ (x : Cell). x.cdr) (changed-other (put (register s.registers b)) cells n m ne) ∙ (kept f i n live).grown.same.cdrs m) in
      record {
        only = λ m v. elim (cases_eq m n) [ inl q ↦ absurd (still.used (rw q at v)) | inr ne ↦ inl (sym (other m ne) ∙ v) ];
        all = λ m h. elim h [ inl v ↦ elim (cases_eq m n) [ inl q ↦ absurd (live.used (rw q at v)) | inr ne ↦ other m ne ∙ v ] | inr x ↦ absurd x ];
      }

  replace-follows : (field : Cell → Word) (put : Word → Cell → Cell) → Field field put → (a b : ℕ) (w : Word) (t : State V) → register s.registers a ≡ w → Followed s t [] (replace_by field put w a (register s.registers b) s)
  replace-follows field put f a b Word.Nil t e = still-cells s t (replace_by field put Word.Nil a (register s.registers b) s) refl refl
  replace-follows field put f a b (Word.Cell n) t e =
      subst (Followed s t []) (sym (replaced-is f i a b n (names i a n e)))
      (quiet s t [] (done (replaced-state f i n (register s.registers b))) (replaced-opens field put f a b n e) (not-worked (Ok Answer.Done) refl))
  replace-follows field put f a b (Word.Atom k) t e = still-cells s t (replace_by field put (Word.Atom k) a (register s.registers b) s) refl refl
  replace-follows field put f a b Word.Reserved t e = still-cells s t (replace_by field put Word.Reserved a (register s.registers b) s) refl refl

  abbrev fr : Option ℕ → Call V → List ℕ
  fr o k = if makes_turn o k then freed_in s.phase s else []

  perform-follows : (says : Bool) (k : Call V) → Followed s (turn says s) (fr None k) (perform says s k)
  perform-follows says (Call.Load r v) = load-follows (leb (s.fixed.atoms.coded v) s.fixed.atoms.limit) r (s.fixed.atoms.coded v) (turn says s)
  perform-follows says (Call.Clear r) = still-cells s (turn says s) (perform says s (Call.Clear r)) refl refl
  perform-follows says (Call.Copy r a) = still-cells s (turn says s) (perform says s (Call.Copy r a)) refl refl
  perform-follows says (Call.Cons r a b) = cons-follows (turn-keeps says i) s (freed_in s.phase s) (turn-opens i s.phase says refl) (work s) r a b
  perform-follows says (Call.Car r a) = read-follows car_of r a (register s.registers a) (turn says s)
  perform-follows says (Call.Cdr r a) = read-follows cdr_of r a (register s.registers a) (turn says s)
  perform-follows says (Call.Rplaca a b) = replace-follows car_of with_car car-field a b (register s.registers a) (turn says s) refl
  perform-follows says (Call.Rplacd a b) = replace-follows cdr_of with_cdr cdr-field a b (register s.registers a) (turn says s) refl
  perform-follows says (Call.Look r) = still-cells s (turn says s) (perform says s (Call.Look r)) refl refl
  perform-follows says (Call.Same a b) = still-cells s (turn says s) (perform says s (Call.Same a b)) refl refl

  checked-follows : (o : Option ℕ) (says : Bool) (k : Call V) → Followed s (turn says s) (fr o k) (checked o says s k)
  checked-follows (Some r) says k = still-cells s (turn says s) (checked (Some r) says s k) refl refl
  checked-follows None says k = perform-follows says k

  pub free-follows : (e : Event V) → FreeFollows s e
  free-follows e =
      let p = checked-follows (absent (registers_of e.call)) e.says e.call in
      let j = step_keeps i e in
      record {
        only = λ n h. let q = p.only n (free-is j n h) in (elim q.0 [ inl v ↦ inl (is_free i n v) | inr m ↦ inr m ], q.1);
        all = λ n h never. is_free j n (p.all n (elim h [ inl v ↦ inl (free-is i n v) | inr m ↦ inr m ]) never);
        was = λ n t. elim (p.was n t) [ inl v ↦ inl (is_free i n v) | inr m ↦ inr m ];
      }
