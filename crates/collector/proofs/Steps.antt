-- Every call keeps the invariant; and what each call comes to in a state that has it.
use Rattle.std.proofs.Common.{◌≡◌, ℕ, ◌<◌, ◌≤◌, Bool, true, false, leb, ◌⊎◌, List, [], ◌∷◌, length, Some, None, Ok, Option, sym, refl, subst, inl, inr, arith, rules}
use Rattle.std.proofs.lemmas.List.{get_or_default}
use Rattle.std.proofs.lemmas.Bool.{cases_eq, ne_eqb, le-leb, lt-ltb, leb-true}
use Rattle.bank.specs.Words.{number_of, with_car, with_cdr}
use Rattle.bank.specs.Banks.{asked, changed}
use Rattle.bank.specs.declared.word.Word.{Word}
use Rattle.bank.specs.declared.word.Cell.{Cell}
use Rattle.listcalls.specs.declared.call.Call.{Call}
use Rattle.listcalls.specs.declared.call.Answer.{Answer}
use Rattle.listcalls.specs.declared.fault.StoreFault.{StoreFault}
use Rattle.listcalls.specs.declared.phase.Phase.{Phase}
use Rattle.collector.specs.Lists.{Mem}
use Rattle.collector.specs.States.{Heap, State, at, roots}
use Rattle.collector.specs.Turns.{offer, work}
use Rattle.collector.specs.Outcomes.{refuse, done, answer, register}
use Rattle.collector.specs.Calls.{replace, with_register, with_heap, with_pool, with_cells, load_if, unlinked, take, read_by, offer_in, write, replace_by, car_of, cdr_of, perform, checked}
use Rattle.collector.specs.Reach.{Reachable, Free}
use Rattle.collector.specs.Runs.{Event, next, Collection, makes_turn, onward_if, onward}
use Rattle.collector.proofs.Cells.{reserved-within}
use Rattle.collector.proofs.Sets.{each-get_or, each_set}
use Rattle.collector.proofs.Same.{dones-marks, Grown, core-same, live_same, sound-map}
use Rattle.collector.proofs.Mark.{offer-marks}
use Rattle.collector.proofs.Take.{filled-plain, filled_is, filling-is, first-free, Taking, put as taken-put, taken-core, taken-sweeping, taken-marks}
use Rattle.collector.proofs.Replace.{Replacing, put as replaced-put, replaced-core, replaced-sweeping, replaced-marks}
use Rattle.collector.proofs.Put.{Put, Marks, put-marking}
use Rattle.collector.proofs.Turn.{Used, in-mark, turn-keeps}
use Rattle.collector.proofs.Invariant.{Sound, Live, Done, Sweeping, Phased, Inv}

-- The state after a cell is taken.
abbrev pub taken-state : {V : Type 0} → ℕ → ℕ → Word → Word → State V → State V
taken-state i h a b s = with_register i (Word.Cell h) (with_pool (unlinked h s) (with_cells (filled-plain s.heap.cells h a b (leb s.pool.sweeper h)) s))

module _ {V : Type 0} {c : Collection V} {s : State V} (i : Inv c s) where
  abbrev R : ℕ → Type 0
  R = Reachable c.began

  abbrev F : ℕ → Type 0
  F = Free c.began

  abbrev L : ℕ
  L = s.fixed.atoms.limit

  abbrev cs : List Cell
  cs = s.heap.cells

  -- What a register holds is sound, and fits the bank.
  pub register-sound : (r : ℕ) → Sound L (Used i) (register s.registers r)
  register-sound r = search (rules, each-get_or)

  pub sound-limit : (w : Word) → Sound L (Used i) w → number_of w ≤ L
  sound-limit w h = search rules

  pub register-keeps : (r : ℕ) (w : Word) → Sound L (Used i) w → Inv c (with_register r w s)
  register-keeps r w h = search each_set

  -- Taking a cell, or finding none.
  pub take-lacks : (work r a b : ℕ) → s.pool.count ≡ 0 → take work r a b s ≡ refuse s (StoreFault.NoFreeCell work)
  take-lacks work r a b e = search

  take-is : (turns r a b h : ℕ) → (s.pool.count ≡ 0 → ⊥) → s.pool.head ≡ Word.Cell h → h < length cs
      → take turns r a b s ≡ answer (taken-state r h (register s.registers a) (register s.registers b) s) (Answer.Worked turns)
  take-is turns r a b h ne e within =
      let la = sound-limit (register s.registers a) (register-sound a) in
      let lb = sound-limit (register s.registers b) (register-sound b) in
      rw (ne_eqb s.pool.count 0 ne, e, filling-is L cs h (register s.registers a) (register s.registers b) within la lb, filled_is L cs h (register s.registers a) (register s.registers b) (leb s.pool.sweeper h) la lb)

  pub take-takes : (turns r a b : ℕ) → (s.pool.count ≡ 0 → ⊥)
      → (h : ℕ) × (rest : List ℕ) × (i.core.fs ≡ h ∷ rest) × (take turns r a b s ≡ answer (taken-state r h (register s.registers a) (register s.registers b) s) (Answer.Worked turns))
  take-takes turns r a b ne =
      let f = first-free cs s.pool.head s.pool.count i.core.fs i.core.listed ne in
      let free : Mem f.0 i.core.fs = subst (λ (fs : List ℕ). Mem f.0 fs) (sym f.2) (inl refl) in
      (f.0, f.1, f.2, take-is turns r a b f.0 ne f.3 (reserved-within cs f.0 (i.core.listed.vacant f.0 free)))

  -- Where the sweep and the marks stand after a cell is changed.
  put-phased : (ds : List Cell) (n : ℕ) (t : Put L (Used i) cs ds n) → ((st : List ℕ) → Sweeping R F s.pool.sweeper c.scanned_cells cs st → Sweeping R F s.pool.sweeper c.scanned_cells ds st)
      → (ph : Phase) → (ph ≡ Phase.Mark → s.pool.sweeper ≡ 0 → Marks t) → Phased ph R F c.began.heap.cells (roots c.began) c.scanned_cells s.heap s.pool.sweeper
      → Phased ph R F c.began.heap.cells (roots c.began) c.scanned_cells (record { cells = ds; stack = s.heap.stack }) s.pool.sweeper
  put-phased ds n t sweeps Phase.Idle marks p = search (rules, t.len, sweeps)
  put-phased ds n t sweeps Phase.Mark marks p = let m = marks refl p.0 in (p.0, put-marking t m p.1, dones-marks cs ds m.grows (roots c.began) p.2)
  put-phased ds n t sweeps Phase.Sweep marks p = search (rules, t.len, sweeps)

  module _ (h : ℕ) (rest : List ℕ) (first : i.core.fs ≡ h ∷ rest) (a b : Word) (sa : Sound L (Used i) a) (sb : Sound L (Used i) b) where
    abbrev m : Bool
    m = leb s.pool.sweeper h

    abbrev ds : List Cell
    ds = filled-plain cs h a b m

    taking : Taking R F c.scanned_cells c.freed_cells L cs s.pool s.registers h rest a b
    taking = search rules

    pub taken-keeps : (r : ℕ) → Inv c (taken-state r h a b s)
    taken-keeps r =
        let t : Put L (Used i) cs ds h = taken-put taking m in
        let phased = put-phased ds h t (λ st. taken-sweeping taking m refl) s.phase (λ e z. taken-marks taking m z (le-leb s.pool.sweeper h (omega arith))) i.phased in
        search (rules, taken-core taking m r)

  -- Asking for a cell of the bank.
  pub asked_is : (n : ℕ) → n < length cs → asked cs n ≡ Ok (at cs n)
  asked_is n l = search (lt-ltb, get_or_default)

  pub record Offer-kept (w : Word) (k : Heap) : Type 0 where
    pub inv : Inv c (with_heap k s)
    pub grown : Grown cs k.cells
    pub offered : s.phase ≡ Phase.Mark → Done k.cells w

  offer-kept-in : (ph : Phase) → s.phase ≡ ph → (w : Word) → Sound L (Used i) w → Offer-kept w (offer_in ph w s.heap)
  offer-kept-in Phase.Idle e w h = search rules
  offer-kept-in Phase.Mark e w h =
      let p = in-mark i e in
      let live : Sound L (Live R F 0 cs) w = search rules in
      let o = offer-marks R F c.began.heap.cells [] c.scanned_cells L w s.heap live i.grounded.few i.core.past p.1 in
      let d = dones-marks cs (offer w s.heap).cells o.grown.marks (roots c.began) p.2 in
      record { inv = search (rules, core-same); grown = o.grown; offered = λ q. o.done }
  offer-kept-in Phase.Sweep e w h = search rules

  pub offer-kept : (w : Word) → Sound L (Used i) w → Offer-kept w (offer_in s.phase w s.heap)
  offer-kept w h = search offer-kept-in

  -- A change of a live cell's words.
  module _ (n : ℕ) (f : Cell → Cell) (t : Replacing R F c.scanned_cells c.freed_cells L cs s.pool s.registers n f) where
    pub changed-keeps : (s.phase ≡ Phase.Mark → ((f (at cs n)).car ≡ (at cs n).car) ⊎ Done cs (at cs n).car) → (s.phase ≡ Phase.Mark → ((f (at cs n)).cdr ≡ (at cs n).cdr) ⊎ Done cs (at cs n).cdr)
        → Inv c (with_cells (changed f cs n) s)
    changed-keeps ea ed =
        let p : Put L (Used i) cs (changed f cs n) n = replaced-put t in
        let phased = put-phased (changed f cs n) n p (λ st. replaced-sweeping t) s.phase (λ e z. replaced-marks t z (ea e) (ed e)) i.phased in
        search (rules, replaced-core t)

-- A word put into a cell of the bank.
pub write-is : {V : Type 0} (put : Word → Cell → Cell) (n : ℕ) (w : Word) (s : State V) → n < length s.heap.cells → number_of w ≤ s.fixed.atoms.limit
    → write put n w s ≡ done (with_cells (changed (put w) s.heap.cells n) s)
write-is put n w s l lw = search rules

-- What a replacement needs of its field: the other words and the mark stay.
pub record Field (field : Cell → Word) (put : Word → Cell → Cell) : Type 0 where
  pub car-is : (w : Word) (x : Cell) → ((put w x).car ≡ w) ⊎ ((put w x).car ≡ x.car)
  pub cdr-is : (w : Word) (x : Cell) → ((put w x).cdr ≡ w) ⊎ ((put w x).cdr ≡ x.cdr)
  pub car-kept : ((w : Word) (x : Cell) → (put w x).car ≡ x.car) ⊎ ((x : Cell) → field x ≡ x.car)
  pub cdr-kept : ((w : Word) (x : Cell) → (put w x).cdr ≡ x.cdr) ⊎ ((x : Cell) → field x ≡ x.cdr)
  pub mark-kept : (w : Word) (x : Cell) → (put w x).mark ≡ x.mark
  pub is-part : (x : Cell) → (field x ≡ x.car) ⊎ (field x ≡ x.cdr)

pub car-field : Field car_of with_car
car-field = search rules

pub cdr-field : Field cdr_of with_cdr
cdr-field = search rules

module _ {V : Type 0} {field : Cell → Word} {put : Word → Cell → Cell} (f : Field field put) {c : Collection V} {s : State V} (i : Inv c s) where
  -- The heap after the offer of the word that is replaced.
  abbrev pub offered-heap : ℕ → Heap
  offered-heap n = offer_in s.phase (field (at s.heap.cells n)) s.heap

  abbrev pub replaced-state : ℕ → Word → State V
  replaced-state n w = with_cells (changed (put w) (offered-heap n).cells n) (with_heap (offered-heap n) s)

  module _ (n : ℕ) (live : Used i n) where
    abbrev lim : ℕ
    lim = s.fixed.atoms.limit

    pub old-sound : Sound lim (Used i) (field (at s.heap.cells n))
    old-sound = search rules

    pub kept : Offer-kept i (field (at s.heap.cells n)) (offered-heap n)
    kept = search (offer-kept, old-sound)

    abbrev now : State V
    now = with_heap (offered-heap n) s

    still : (k : ℕ) → Used i k → Used kept.inv k
    still = live_same (Reachable c.began) (Free c.began) s.pool.sweeper s.heap.cells (offered-heap n).cells kept.grown.same

    module _ (w : Word) (sw : Sound lim (Used i) w) where
      new-sound : Sound lim (Used kept.inv) w
      new-sound = search (sound-map, still)

      abbrev cell : Cell
      cell = at (offered-heap n).cells n

      one_of : (x y z : Word) → (x ≡ y) ⊎ (x ≡ z) → Sound lim (Used kept.inv) y → Sound lim (Used kept.inv) z → Sound lim (Used kept.inv) x
      one_of x y z either a b = search rules

      replacing : Replacing (Reachable c.began) (Free c.began) c.scanned_cells c.freed_cells lim (offered-heap n).cells s.pool s.registers n (put w)
      replacing = search (rules, kept, still, one_of, new-sound)

      -- The word that is replaced was offered.
      was-offered : (part : Cell → Word) → (part cell ≡ part (at s.heap.cells n)) → ((v : Word) (x : Cell) → part (put v x) ≡ part x) ⊎ ((x : Cell) → field x ≡ part x) → s.phase ≡ Phase.Mark
          → (part (put w cell) ≡ part cell) ⊎ Done (offered-heap n).cells (part cell)
      was-offered part same either e = search rules

      pub replaced-keeps : Inv c (replaced-state n w)
      replaced-keeps = changed-keeps kept.inv n (put w) replacing
          (was-offered car_of (kept.grown.same.cars n) f.car-kept)
          (was-offered cdr_of (kept.grown.same.cdrs n) f.cdr-kept)

  -- What a replacement comes to, at a cell that is named.
  pub replaced-is : (a b n : ℕ) → Used i n → replace_by field put (Word.Cell n) a (register s.registers b) s ≡ done (replaced-state n (register s.registers b))
  replaced-is a b n live =
      rw (asked_is i n live.within)
      (write-is put n (register s.registers b) (with_heap (offered-heap n) s) (let l = live.within in let q = (kept n live).grown.same.len in omega arith) (sound-limit i (register s.registers b) (register-sound i b)))

  pub replace-is : (a b n : ℕ) → register s.registers a ≡ Word.Cell n → Used i n → replace field put a b s ≡ done (replaced-state n (register s.registers b))
  replace-is a b n e live = rw e (replaced-is a b n live)

-- Each call keeps the invariant.
module _ {V : Type 0} {c : Collection V} {s : State V} (i : Inv c s) where
  pub names : (a n : ℕ) → register s.registers a ≡ Word.Cell n → Used i n
  names a n e = subst (Sound s.fixed.atoms.limit (Used i)) e (register-sound i a)

  load-keeps : (b : Bool) (r code : ℕ) → leb code s.fixed.atoms.limit ≡ b → Inv c (load_if b r code s).state
  load-keeps true r code e = search (register-keeps, leb-true)
  load-keeps false r code e = i

  read_keeps : (field : Cell → Word) → ((n : ℕ) → Used i n → Sound s.fixed.atoms.limit (Used i) (field (at s.heap.cells n))) → (r a : ℕ) (w : Word) → register s.registers a ≡ w → Inv c (read_by field w r a s).state
  read_keeps field sound r a Word.Nil e = i
  read_keeps field sound r a (Word.Cell n) e = rw (asked_is i n (names a n e).within) (register-keeps i r (field (at s.heap.cells n)) (sound n (names a n e)))
  read_keeps field sound r a (Word.Atom k) e = i
  read_keeps field sound r a Word.Reserved e = i

  replace-keeps : (field : Cell → Word) (put : Word → Cell → Cell) → Field field put → (a b : ℕ) (w : Word) → register s.registers a ≡ w → Inv c (replace_by field put w a (register s.registers b) s).state
  replace-keeps field put f a b Word.Nil e = i
  replace-keeps field put f a b (Word.Cell n) e = rw (replaced-is f i a b n (names a n e)) (replaced-keeps f i n (names a n e) (register s.registers b) (register-sound i b))
  replace-keeps field put f a b (Word.Atom k) e = i
  replace-keeps field put f a b Word.Reserved e = i

pub take-keeps : {V : Type 0} {c : Collection V} {s : State V} → Inv c s → (work r a b : ℕ) → Inv c (take work r a b s).state
take-keeps {V = V} {c = c} {s = s} i work r a b =
    elim (cases_eq s.pool.count 0) [
      | inl e ↦ search rules
      | inr ne ↦ let t = take-takes i work r a b ne in
          rw t.3 (taken-keeps i t.0 t.1 t.2 (register s.registers a) (register s.registers b) (register-sound i a) (register-sound i b) r)
    ]

pub perform-keeps : {V : Type 0} {c : Collection V} {s : State V} → Inv c s → (says : Bool) (k : Call V) → Inv (onward_if (makes_turn None k) says s c) (perform says s k).state
perform-keeps i says (Call.Load r v) = search load-keeps
perform-keeps i says (Call.Clear r) = register-keeps i r Word.Nil tt
perform-keeps i says (Call.Copy r a) = search (register-keeps, register-sound)
perform-keeps i says (Call.Cons r a b) = search (take-keeps, turn-keeps)
perform-keeps i says (Call.Car r a) = search read_keeps
perform-keeps i says (Call.Cdr r a) = search read_keeps
perform-keeps i says (Call.Rplaca a b) = search (replace-keeps, car-field)
perform-keeps i says (Call.Rplacd a b) = search (replace-keeps, cdr-field)
perform-keeps i says (Call.Look r) = i
perform-keeps i says (Call.Same a b) = i

checked-keeps : {V : Type 0} (o : Option ℕ) {c : Collection V} {s : State V} → Inv c s → (says : Bool) (k : Call V) → Inv (onward_if (makes_turn o k) says s c) (checked o says s k).state
checked-keeps (Some r) i says k = i
checked-keeps None i says k = perform-keeps i says k

-- Every call keeps the invariant.
pub step_keeps : {V : Type 0} {c : Collection V} {s : State V} → Inv c s → (e : Event V) → Inv (onward s e c) (next s e)
step_keeps i e = search checked-keeps
