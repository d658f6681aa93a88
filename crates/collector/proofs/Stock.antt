-- Under the starvation bound there is a free cell after every turn.
use Rattle.std.proofs.Common.{◌≡◌, ℕ, ◌+◌, ◌-◌, ◌*◌, ◌≤◌, min, Bool, true, false, cond, leb, List, [], ◌++◌, length, ap, ◌∙◌, inl, inr, mul-le-mul_left, arith, length-append, rules}
use Rattle.std.proofs.lemmas.Bool.{cases_lt, leb-true}
use Rattle.listcalls.specs.declared.phase.Phase.{Phase}
use Rattle.collector.specs.Lists.{AtMost}
use Rattle.collector.specs.States.{State, size}
use Rattle.collector.specs.Turns.{Ground, sweeps, freed, marked, ground, swept, turn_in, turn}
use Rattle.collector.specs.Reach.{Reachable, free_list}
use Rattle.collector.specs.Runs.{Keeps, Collection, onward_in}
use Rattle.collector.specs.Laws.{turns_for, Enough}
use Rattle.collector.proofs.Sets.{all-below, mem-left, mem-right}
use Rattle.collector.proofs.Ceilings.{turns-bound, turns-mono, sweep-leaves, sweep-ends}
use Rattle.collector.proofs.Turn.{sweep-swept, sweep-place, after-mark, after-sweep, swept_keeps}
use Rattle.collector.proofs.Pace.{MarksFull, SweepsFull, PacedIn, Paced, mark-pace, sweep-pace, place-now}
use Rattle.collector.proofs.Invariant.{Inv}

-- The count of free cells between two calls, against the count F with which the collection began.
abbrev pub StockedIn : {V : Type 0} → Phase → ℕ → ℕ → Collection V → ℕ → Type 0
StockedIn Phase.Idle A M c count = M ≤ count
StockedIn Phase.Mark A M c count =
    AtMost A (Reachable c.began) × (M ≤ c.began.pool.count) × (count + 1 + c.mark_turns ≡ c.began.pool.count) × (c.freed_cells ≡ [])
StockedIn Phase.Sweep A M c count =
    AtMost A (Reachable c.began) × (M ≤ c.began.pool.count) × (count + 1 + c.mark_turns + c.sweep_turns ≡ c.began.pool.count + length c.freed_cells)

-- In every phase all mark turns but the last were full.
pub marks-full : {V : Type 0} (ph : Phase) (c : Collection V) (s : State V) → 1 ≤ s.fixed.k1 → PacedIn ph c s → MarksFull s.fixed.k1 c
marks-full Phase.Idle c s l p = p.0
marks-full Phase.Mark c s l p =
    elim (cases_lt 0 c.mark_turns) [
      | inr none ↦ inl (omega arith)
      | inl some ↦ inr (let q : c.mark_turns ≡ c.mark_turns - 1 + 1 = omega arith in
          let r : s.fixed.k1 * c.mark_turns ≡ s.fixed.k1 * (c.mark_turns - 1) + s.fixed.k1 = ap (λ (x : ℕ). s.fixed.k1 * x) q ∙ omega arith in
          let e = p.0 in omega arith)
    ]
marks-full Phase.Sweep c s l p = p.0

pub sweeps-full : {V : Type 0} (ph : Phase) (c : Collection V) (s : State V) → PacedIn ph c s → SweepsFull s.fixed.k2 (size s) c
sweeps-full ph c s p = search (rules, mul-le-mul_left)

-- No more mark turns than the reachable cells ask for.
pub marks-few : {V : Type 0} {c : Collection V} {s : State V} → 1 ≤ s.fixed.k1 → Paced c s → (A : ℕ) → AtMost A (Reachable c.began) → c.mark_turns ≤ turns_for A s.fixed.k1
marks-few l p A b = search (rules, turns-bound, marks-full, turns-mono)

module _ {V : Type 0} {A : ℕ} {c : Collection V} {s : State V} (i : Inv c s) (p : Paced c s) (enough : Enough A s.fixed.k1 s.fixed.k2 s.fixed.floor (size s)) where
  abbrev M : ℕ
  M = s.fixed.floor

  module _ (marking : s.phase ≡ Phase.Mark) (stock : StockedIn Phase.Mark A M c s.pool.count) where
    marks : c.mark_turns + 1 ≤ turns_for A s.fixed.k1
    marks = marks-few i.grounded.scans_some (mark-pace i p marking) A stock.0

    left-in-mark : 1 ≤ s.pool.count
    left-in-mark = search (rules, marks)

    marked-stock : (b : Bool) → PacedIn (cond b Phase.Sweep Phase.Mark) (after-mark s c) (marked s) → StockedIn (cond b Phase.Sweep Phase.Mark) A M (after-mark s c) (s.pool.count - 1)
    marked-stock true q = search (rules, left-in-mark)
    marked-stock false q = search (rules, left-in-mark)

    pub mark-stock : (1 ≤ s.pool.count) × StockedIn (marked s).phase A M (after-mark s c) (s.pool.count - 1)
    mark-stock = search (rules, left-in-mark, marked-stock, mark-pace)

  module _ (sweeping : s.phase ≡ Phase.Sweep) (stock : StockedIn Phase.Sweep A M c s.pool.count) where
    abbrev g : Ground
    g = sweeps s.fixed.atoms.limit s.fixed.k2 (ground s)

    abbrev more : List ℕ
    more = freed s.fixed.atoms.limit s.fixed.k2 (ground s)

    abbrev fr : ℕ
    fr = length (c.freed_cells ++ more)

    abbrev F : ℕ
    F = c.began.pool.count

    abbrev turns : ℕ
    turns = c.sweep_turns + 1

    after : Paced (after-sweep s c) (swept s)
    after = search sweep-pace

    same : length g.cells ≡ size s
    same = (sweep-place i sweeping).0

    last-few : turns ≤ turns_for (size s) s.fixed.k2
    last-few = rw (← same) (turns-bound turns s.fixed.k2 (length g.cells) i.grounded.sweeps_some (sweeps-full (swept s).phase (after-sweep s c) (swept s) after.paced))

    place : g.pool.sweeper ≡ min (s.fixed.k2 * turns) (size s)
    place = search (rules, place-now, same)

    -- The sweep has passed freed cells, scanned cells, and cells that were free.
    cover : g.pool.sweeper ≤ fr + A + F
    cover =
        let all : List ℕ = (c.freed_cells ++ more) ++ (c.scanned_cells ++ free_list c.began) in
        let passed = all-below g.pool.sweeper all (λ n l. elim ((swept_keeps i sweeping).core.log.cover n l) [
          | inl a ↦ search (rules, mem-left, a)
          | inr k ↦ grind (arith, mem-right, n, c.freed_cells, more, c.scanned_cells, c.began, k, mem-left)
        ]) in
        let l1 = length-append (c.freed_cells ++ more) (c.scanned_cells ++ free_list c.began) in
        let l2 = length-append c.scanned_cells (free_list c.began) in
        let few : length c.scanned_cells ≤ A = search rules in
        let free = p.free-count in
        omega arith

    marks_then : c.mark_turns ≤ turns_for A s.fixed.k1
    marks_then = search marks-few

    counted : g.pool.count + c.mark_turns + turns ≡ F + fr
    counted =
        let a = (sweep-swept i sweeping).counted in
        let b = length-append c.freed_cells more in
        let e = stock.2 in
        omega arith

    left-in-sweep : 1 ≤ g.pool.count
    left-in-sweep =
        let l = sweep-leaves A s.fixed.k1 s.fixed.k2 M (size s) F fr c.mark_turns turns g.pool.sweeper i.grounded.sweeps_some enough stock.1 marks_then last-few place cover in
        let e = counted in
        omega arith

    swept-stock : (b : Bool) → leb (length g.cells) g.pool.sweeper ≡ b → StockedIn (cond b Phase.Idle Phase.Sweep) A M (after-sweep s c) (g.pool.count - 1)
    swept-stock true e = search (rules, leb-true, place, same, sweep-ends, marks_then, last-few, cover, counted)
    swept-stock false e = search (rules, left-in-sweep, counted)

    pub sweep-stock : (1 ≤ g.pool.count) × StockedIn (swept s).phase A M (after-sweep s c) (g.pool.count - 1)
    sweep-stock = search (left-in-sweep, swept-stock)

  turn-stock-in : (ph : Phase) (says : Bool) → s.phase ≡ ph → AtMost A (Reachable s) → Keeps s says → StockedIn ph A M c s.pool.count
      → (1 ≤ (turn_in ph says s).pool.count) × StockedIn (turn_in ph says s).phase A M (onward_in ph says s c) ((turn_in ph says s).pool.count - 1)
  turn-stock-in Phase.Idle true e b k stock = search rules
  turn-stock-in Phase.Idle false e b k stock = search rules
  turn-stock-in Phase.Mark says e b k stock = mark-stock e stock
  turn-stock-in Phase.Sweep says e b k stock = sweep-stock e stock

  -- After a turn there is a free cell, and when it is taken the count is again as it should be.
  pub turn-stock : (says : Bool) → AtMost A (Reachable s) → Keeps s says → StockedIn s.phase A M c s.pool.count
      → (1 ≤ (turn says s).pool.count) × StockedIn (turn says s).phase A M (onward_in s.phase says s c) ((turn says s).pool.count - 1)
  turn-stock says b k stock = search turn-stock-in
