-- A turn keeps the invariant.
use Rattle.std.proofs.Common.{◌≡◌, ℕ, ◌+◌, ◌<◌, ◌≤◌, min, Bool, true, false, cond, leb, List, [], ◌++◌, length, sym, refl, subst, inl, inr, rules}
use Rattle.std.proofs.lemmas.Bool.{both_ways}
use Rattle.bank.specs.declared.word.Word.{Word}
use Rattle.bank.specs.declared.word.Cell.{Cell}
use Rattle.listcalls.specs.declared.phase.Phase.{Phase}
use Rattle.collector.specs.Lists.{Mem, Each, is_empty}
use Rattle.collector.specs.States.{Heap, Pool, State, at, roots}
use Rattle.collector.specs.Turns.{Ground, offers, scans, scanned, sweeps, freed, begun, marked, ground, swept, turn_in, turn}
use Rattle.collector.specs.Reach.{root, via, Reachable, Free}
use Rattle.collector.specs.Runs.{Collection, beginning, onward_in}
use Rattle.collector.proofs.Sets.{each_of, each_at, empty-is, mem-left}
use Rattle.collector.proofs.Chains.{listed-is}
use Rattle.collector.proofs.Same.{core-same, dones-marks}
use Rattle.collector.proofs.Scan.{Ready, Marked, offers-marks, scans-marks, marking-ends}
use Rattle.collector.proofs.Sweep.{Swept, sweeps-keep, sweeps-place}
use Rattle.collector.proofs.Invariant.{Vacant, Sound, Closed, Live, Done, Kept, Marking, Sweeping, Past, Core, Phased, Inv}

module _ {V : Type 0} {c : Collection V} {s : State V} (i : Inv c s) where
  abbrev pub Used : ℕ → Type 0
  Used = Live (Reachable c.began) (Free c.began) s.pool.sweeper s.heap.cells

  abbrev limit : ℕ
  limit = s.fixed.atoms.limit

  abbrev cs : List Cell
  cs = s.heap.cells

  pub sound-names : (w : Word) (n : ℕ) → Sound limit Used w → w ≡ Word.Cell n → Used n
  sound-names w n h e = search rules

  -- What is reachable is live.
  pub live_now : (n : ℕ) → Reachable s n → Used n
  live_now n (root m) = search (rules, each_at)
  live_now n (via {m = m} r (inl e)) = search (rules, sound-names, live_now m r)
  live_now n (via {m = m} r (inr e)) = search (rules, sound-names, live_now m r)

  -- The free cells are the vacant ones.
  pub free-is : (n : ℕ) → Free s n → Vacant cs n
  free-is n m = search (rules, listed-is)

  pub is_free : (n : ℕ) → Vacant cs n → Free s n
  is_free n v = search (rules, listed-is)

  -- The cells in use, seen from a collection that begins here.
  abbrev Anew : ℕ → Type 0
  Anew = Live (Reachable s) (Free s) 0 cs

  anew-reached : (n : ℕ) → Anew n → Reachable s n
  anew-reached n l = search (rules, free-is)

  anew-sound : (w : Word) → ((m : ℕ) → w ≡ Word.Cell m → Reachable s m) → Sound limit Used w → Sound limit Anew w
  anew-sound w f h = search rules

  abbrev pool-at-start : Pool
  pool-at-start = record { head = s.pool.head; count = s.pool.count; sweeper = 0 }

  pub past-now : Past (Reachable s) (Free s) (length cs)
  past-now = search (rules, live_now, free-is)

  closed-anew : Closed limit Anew cs (roots s)
  closed-anew = record {
    inside = λ n l. l.within;
    cars = λ n l. let r = anew-reached n l in anew-sound (at cs n).car (λ m e. via r (inl e)) (i.core.closed.cars n (live_now n r));
    cdrs = λ n l. let r = anew-reached n l in anew-sound (at cs n).cdr (λ m e. via r (inr e)) (i.core.closed.cdrs n (live_now n r));
    words = each_of (roots s) (λ w m. anew-sound w (λ n e. root (subst (λ (x : Word). Mem x (roots s)) e m)) (each_at (Sound limit Used) (roots s) i.core.closed.words w m));
  }

  core-anew : Core (Reachable s) (Free s) [] [] limit cs pool-at-start (roots s)
  core-anew = search (rules, closed-anew, is_free, past-now)

  module _ (idle : s.phase ≡ Phase.Idle) where
    quiet : (s.pool.sweeper ≡ length cs) × Sweeping (Reachable c.began) (Free c.began) s.pool.sweeper c.scanned_cells cs s.heap.stack
    quiet = search rules

    unmarked : (n : ℕ) → n < length cs → (at cs n).mark ≡ false
    unmarked n l = search rules

    kept-anew : (field : Cell → Word) (stack : List ℕ) → Kept field (Reachable s) cs [] cs stack
    kept-anew field stack m r = inr (inl (unmarked m (live_now m r).within), refl)

    marking-anew : Marking (Reachable s) (Free s) cs [] [] cs []
    marking-anew = search (rules, both_ways, unmarked, free-is, live_now, kept-anew)

    pub begun-marked : Marked (Reachable s) (Free s) limit (roots s) cs [] [] s.heap (offers (roots s) s.heap) (roots s)
    begun-marked = offers-marks (Reachable s) (Free s) limit (roots s) cs [] [] (roots s) s.heap
        (record { few = i.grounded.few; closed = closed-anew; above = is_free; past = past-now })
        closed-anew.words
        (subst (Marking (Reachable s) (Free s) cs [] [] cs) (sym quiet.1.rest) marking-anew)

    pub begun-keeps : Inv (beginning s) (begun s)
    begun-keeps = search (rules, begun-marked, core-same, core-anew)

-- The collection after a mark turn and after a sweep turn.
abbrev pub after-mark : {V : Type 0} → State V → Collection V → Collection V
after-mark s c = onward_in Phase.Mark true s c

abbrev pub after-sweep : {V : Type 0} → State V → Collection V → Collection V
after-sweep s c = onward_in Phase.Sweep true s c

core-popped : (R F : ℕ → Type 0) (popped more freed : List ℕ) (most : ℕ) (cells : List Cell) (pool : Pool) (ws : List Word) → Core R F popped freed most cells pool ws → Core R F (popped ++ more) freed most cells pool ws
core-popped R F popped more freed most cells pool ws c = search (rules, mem-left)

module _ {V : Type 0} {c : Collection V} {s : State V} (i : Inv c s) where
  abbrev R : ℕ → Type 0
  R = Reachable c.began

  abbrev F : ℕ → Type 0
  F = Free c.began

  abbrev L : ℕ
  L = s.fixed.atoms.limit

  module _ (marking : s.phase ≡ Phase.Mark) where
    pub in-mark : (s.pool.sweeper ≡ 0) × Marking R F c.began.heap.cells [] c.scanned_cells s.heap.cells s.heap.stack × Each (Done s.heap.cells) (roots c.began)
    in-mark = search rules

    pub mark-ready : Ready R F L (roots s) s.heap.cells
    mark-ready = search rules

    pub mark-marked : Marked R F L (roots s) c.began.heap.cells [] (c.scanned_cells ++ scanned s.fixed.k1 s.heap) s.heap (scans s.fixed.k1 s.heap) []
    mark-marked = scans-marks R F L (roots s) c.began.heap.cells s.fixed.k1 c.scanned_cells s.heap mark-ready in-mark.1

    after-phased : (b : Bool) (h : Heap) → is_empty h.stack ≡ b → Marked R F L (roots s) c.began.heap.cells [] (c.scanned_cells ++ scanned s.fixed.k1 s.heap) s.heap h []
        → Phased (cond b Phase.Sweep Phase.Mark) R F c.began.heap.cells (roots c.began) (c.scanned_cells ++ scanned s.fixed.k1 s.heap) h s.pool.sweeper
    after-phased true h e m =
        let done = dones-marks s.heap.cells h.cells m.grown.marks (roots c.began) in-mark.2 in
        let nothing : h.stack ≡ [] = empty-is h.stack e in
        let ps : List ℕ = c.scanned_cells ++ scanned s.fixed.k1 s.heap in
        let swept0 : Sweeping R F 0 ps h.cells [] = marking-ends F c.began.heap.cells (roots c.began) ps h.cells (subst (Marking R F c.began.heap.cells [] ps h.cells) nothing m.marking) done in
        (search (rules, in-mark.0), rw (in-mark.0, nothing) swept0)
    after-phased false h e m = (in-mark.0, m.marking, dones-marks s.heap.cells h.cells m.grown.marks (roots c.began) in-mark.2)

    pub marked-keeps : Inv (after-mark s c) (marked s)
    marked-keeps = search (rules, mark-marked, core-same, core-popped, after-phased)

  module _ (sweeping : s.phase ≡ Phase.Sweep) where
    pub in-sweep : (s.pool.sweeper ≤ length s.heap.cells) × Sweeping R F s.pool.sweeper c.scanned_cells s.heap.cells s.heap.stack
    in-sweep = search rules

    pub sweep-swept : Swept R F c.scanned_cells L (roots s) s.heap.stack c.freed_cells (freed L s.fixed.k2 (ground s)) (ground s) (sweeps L s.fixed.k2 (ground s))
    sweep-swept = sweeps-keep R F c.scanned_cells L (roots s) s.heap.stack s.fixed.k2 c.freed_cells (ground s) i.grounded.few i.grounded.wide i.core in-sweep.1

    pub sweep-place : (length (sweeps L s.fixed.k2 (ground s)).cells ≡ length s.heap.cells) × ((sweeps L s.fixed.k2 (ground s)).pool.sweeper ≡ min (s.pool.sweeper + s.fixed.k2) (length s.heap.cells))
    sweep-place = sweeps-place L s.fixed.k2 (ground s) in-sweep.0

    swept-phased : (b : Bool) (g : Ground) → leb (length g.cells) g.pool.sweeper ≡ b → g.pool.sweeper ≤ length g.cells → Sweeping R F g.pool.sweeper c.scanned_cells g.cells s.heap.stack
        → Phased (cond b Phase.Idle Phase.Sweep) R F c.began.heap.cells (roots c.began) c.scanned_cells (record { cells = g.cells; stack = s.heap.stack }) g.pool.sweeper
    swept-phased true g e l w = search rules
    swept-phased false g e l w = (l, w)

    pub swept_keeps : Inv (after-sweep s c) (swept s)
    swept_keeps = search (rules, sweep-swept, swept-phased, sweep-place)

turn-keeps-in : {V : Type 0} (ph : Phase) (says : Bool) {c : Collection V} {s : State V} → s.phase ≡ ph → Inv c s → Inv (onward_in ph says s c) (turn_in ph says s)
turn-keeps-in Phase.Idle true e i = begun-keeps i e
turn-keeps-in Phase.Idle false e i = i
turn-keeps-in Phase.Mark says e i = marked-keeps i e
turn-keeps-in Phase.Sweep says e i = swept_keeps i e

-- A turn keeps the invariant.
pub turn-keeps : {V : Type 0} (says : Bool) {c : Collection V} {s : State V} → Inv c s → Inv (onward_in s.phase says s c) (turn says s)
turn-keeps says i = search turn-keeps-in
