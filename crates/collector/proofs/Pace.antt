-- How many turns a collection takes, and how its count of free cells goes.
use Rattle.std.proofs.Common.{◌≡◌, ℕ, zero, suc, ◌+◌, ◌-◌, ◌*◌, ◌<◌, ◌≤◌, min, Bool, true, false, cond, leb, ◌⊎◌, List, [], ◌∷◌, ◌++◌, length, refl, ap, inl, inr, arith, length-append, rules}
use Rattle.std.proofs.lemmas.Bool.{both_ways, leb-false}
use Rattle.bank.specs.declared.word.Cell.{Cell}
use Rattle.listcalls.specs.declared.phase.Phase.{Phase}
use Rattle.collector.specs.Lists.{Distinct, Each, is_empty}
use Rattle.collector.specs.States.{Heap, State, size}
use Rattle.collector.specs.Turns.{Ground, scan_on, scans, scanned, sweeps, begun, marked, ground, swept, turn_in, turn}
use Rattle.collector.specs.Reach.{Reachable, free_list}
use Rattle.collector.specs.Runs.{Collection, beginning, onward_in}
use Rattle.collector.proofs.Sets.{each_of}
use Rattle.collector.proofs.Chains.{listed-is}
use Rattle.collector.proofs.Turn.{in-mark, mark-marked, sweep-place, after-mark, after-sweep}
use Rattle.collector.proofs.Invariant.{Inv}

-- All mark turns but the last were full, and so were all sweep turns.
abbrev pub MarksFull : {V : Type 0} → ℕ → Collection V → Type 0
MarksFull k c = (c.mark_turns ≤ 1) ⊎ (k * (c.mark_turns - 1) < length c.scanned_cells)

abbrev pub SweepsFull : {V : Type 0} → ℕ → ℕ → Collection V → Type 0
SweepsFull k N c = (c.sweep_turns ≤ 1) ⊎ (k * (c.sweep_turns - 1) < N)

abbrev pub PacedIn : {V : Type 0} → Phase → Collection V → State V → Type 0
PacedIn Phase.Idle c s = MarksFull s.fixed.k1 c × SweepsFull s.fixed.k2 (size s) c
PacedIn Phase.Mark c s =
    (length c.scanned_cells ≡ s.fixed.k1 * c.mark_turns) × (c.sweep_turns ≡ 0) × ((c.mark_turns ≡ 0) ⊎ (is_empty s.heap.stack ≡ false))
PacedIn Phase.Sweep c s =
    MarksFull s.fixed.k1 c × (s.pool.sweeper ≡ min (s.fixed.k2 * c.sweep_turns) (size s)) × ((c.sweep_turns ≡ 0) ⊎ (s.pool.sweeper < size s))

pub record Paced {V : Type 0} (c : Collection V) (s : State V) : Type 0 where
  pub once : Distinct c.scanned_cells
  pub were : Each (Reachable c.began) c.scanned_cells
  pub free-count : length (free_list c.began) ≡ c.began.pool.count
  pub paced : PacedIn s.phase c s

-- How many cells some scans pop.
empty-stays : (k : ℕ) (cs : List Cell) → (scans k (record { cells = cs; stack = [] })).stack ≡ []
empty-stays zero cs = refl
empty-stays (suc k) cs = empty-stays k cs

pub pops-full : (k : ℕ) (cs : List Cell) (stack : List ℕ) → is_empty (scans k (record { cells = cs; stack = stack })).stack ≡ false → length (scanned k (record { cells = cs; stack = stack })) ≡ k
pops-full zero cs stack e = refl
pops-full (suc k) cs [] e = search (rules, both_ways, empty-stays)
pops-full (suc k) cs (m ∷ stack) e =
    let h : Heap = scan_on (m ∷ stack) cs in
    ap suc (pops-full k h.cells h.stack e)

pub pops-some : (k : ℕ) (cs : List Cell) (stack : List ℕ) → 1 ≤ k → is_empty stack ≡ false → 1 ≤ length (scanned k (record { cells = cs; stack = stack }))
pops-some k cs stack l e = search rules

module _ {V : Type 0} {c : Collection V} {s : State V} (i : Inv c s) (p : Paced c s) where
  module _ (marking : s.phase ≡ Phase.Mark) where
    before : PacedIn Phase.Mark c s
    before = search rules

    abbrev more : List ℕ
    more = scanned s.fixed.k1 s.heap

    longer : length (c.scanned_cells ++ more) ≡ length c.scanned_cells + length more
    longer = search length-append

    marked-paced : (b : Bool) → is_empty (scans s.fixed.k1 s.heap).stack ≡ b → PacedIn (cond b Phase.Sweep Phase.Mark) (after-mark s c) (marked s)
    marked-paced true e =
        let was = before in
        let len = longer in (
          elim was.2 [
            | inl none ↦ inl (omega arith)
            | inr waits ↦ inr (let one = pops-some s.fixed.k1 s.heap.cells s.heap.stack i.grounded.scans_some waits in
                let q : c.mark_turns + 1 - 1 ≡ c.mark_turns = omega arith in
                let r : s.fixed.k1 * (c.mark_turns + 1 - 1) ≡ s.fixed.k1 * c.mark_turns = search rules in
                let full = was.0 in omega arith)
          ],
          (let z = (in-mark i marking).0 in let y : c.sweep_turns ≡ 0 = was.1 in let w : s.fixed.k2 * c.sweep_turns ≡ s.fixed.k2 * 0 = search rules in omega arith),
          inl was.1,
        )
    marked-paced false e =
        let was = before in
        let len = longer in
        let all : length more ≡ s.fixed.k1 = pops-full s.fixed.k1 s.heap.cells s.heap.stack e in
        let full = was.0 in
        (omega arith, was.1, inr e)

    pub mark-pace : Paced (after-mark s c) (marked s)
    mark-pace = search (rules, mark-marked, each_of, marked-paced)

  module _ (sweeping : s.phase ≡ Phase.Sweep) where
    during : PacedIn Phase.Sweep c s
    during = search rules

    abbrev g : Ground
    g = sweeps s.fixed.atoms.limit s.fixed.k2 (ground s)

    new-place : g.pool.sweeper ≡ min (s.fixed.k2 * (c.sweep_turns + 1)) (length g.cells)
    new-place =
        let a = (sweep-place i sweeping).0 in
        let b = (sweep-place i sweeping).1 in
        let d = during.1 in
        omega arith

    swept-paced : (b : Bool) → leb (length g.cells) g.pool.sweeper ≡ b → PacedIn (cond b Phase.Idle Phase.Sweep) (after-sweep s c) (swept s)
    swept-paced true e =
        let was = during in
        let a = (sweep-place i sweeping).0 in (
          was.0,
          elim was.2 [
            | inl none ↦ inl (omega arith)
            | inr below ↦ search rules
          ],
        )
    swept-paced false e = search (rules, during, new-place, leb-false)

    pub sweep-pace : Paced (after-sweep s c) (swept s)
    sweep-pace = search swept-paced

    -- Where the sweep stands after the turn.
    pub place-now : g.pool.sweeper ≡ min (s.fixed.k2 * (c.sweep_turns + 1)) (length g.cells)
    place-now = new-place

  pub begin-pace : Paced (beginning s) (begun s)
  begin-pace = search (rules, listed-is)

turn-pace-in : {V : Type 0} (ph : Phase) (says : Bool) {c : Collection V} {s : State V} → s.phase ≡ ph → Inv c s → Paced c s → Paced (onward_in ph says s c) (turn_in ph says s)
turn-pace-in Phase.Idle true e i p = begin-pace i p
turn-pace-in Phase.Idle false e i p = p
turn-pace-in Phase.Mark says e i p = mark-pace i p e
turn-pace-in Phase.Sweep says e i p = sweep-pace i p e

pub turn-pace : {V : Type 0} (says : Bool) {c : Collection V} {s : State V} → Inv c s → Paced c s → Paced (onward_in s.phase says s c) (turn says s)
turn-pace says i p = search turn-pace-in

-- What a call changes besides its turn: neither phase nor sweeper, and a waiting cell goes on waiting.
pub record Calm {V : Type 0} (s t : State V) : Type 0 where
  pub phase : t.phase ≡ s.phase
  pub sweeper : t.pool.sweeper ≡ s.pool.sweeper
  pub fixed : t.fixed ≡ s.fixed
  pub size_same : size t ≡ size s
  pub waiting : is_empty s.heap.stack ≡ false → is_empty t.heap.stack ≡ false

pub paced-calm : {V : Type 0} (c : Collection V) (s t : State V) → Calm s t → Paced c s → Paced c t
paced-calm c s t m p = search rules
