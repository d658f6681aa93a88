-- What a turn leaves as it was: the registers, what is fixed, and the words of live cells.
use Rattle.std.proofs.Common.{◌≡◌, ℕ, Bool, true, false, sym, refl, ◌∙◌, rules}
use Rattle.listcalls.specs.declared.phase.Phase.{Phase}
use Rattle.collector.specs.States.{State, at, size}
use Rattle.collector.specs.Turns.{turn_in, turn}
use Rattle.collector.specs.Runs.{Event, next, Collection, onward}
use Rattle.collector.proofs.Turn.{Used, begun-marked, mark-marked, sweep-swept}
use Rattle.collector.proofs.Steps.{step_keeps}
use Rattle.collector.proofs.Invariant.{Inv}

pub record Moved {V : Type 0} (P : ℕ → Type 0) (s t : State V) : Type 0 where
  pub registers : t.registers ≡ s.registers
  pub fixed : t.fixed ≡ s.fixed
  pub words : (n : ℕ) → P n → ((at t.heap.cells n).car ≡ (at s.heap.cells n).car) × ((at t.heap.cells n).cdr ≡ (at s.heap.cells n).cdr)

module _ {V : Type 0} {c : Collection V} {s : State V} (i : Inv c s) where
  moved_in : (ph : Phase) (says : Bool) → s.phase ≡ ph → Moved (Used i) s (turn_in ph says s)
  moved_in Phase.Idle true e = let m = (begun-marked i e).grown.same in record { registers = refl; fixed = refl; words = λ n l. (m.cars n, m.cdrs n) }
  moved_in Phase.Idle false e = search
  moved_in Phase.Mark says e = let m = (mark-marked i e).grown.same in record { registers = refl; fixed = refl; words = λ n l. (m.cars n, m.cdrs n) }
  moved_in Phase.Sweep says e = record { registers = refl; fixed = refl; words = (sweep-swept i e).moved }

  pub turn-moves : (says : Bool) → Moved (Used i) s (turn says s)
  turn-moves says = search moved_in

-- The collection that a call leads to began with what is fixed now, and in a bank of this size.
module _ {V : Type 0} {X : Type 0} (part : State V → X) where
  pub onward-part : (s : State V) (e : Event V) (c : Collection V) → part c.began ≡ part s → part (onward s e c).began ≡ part s
  onward-part s e c q = search rules

pub next-fixed : {V : Type 0} {c : Collection V} {s : State V} → Inv c s → (e : Event V) → (next s e).fixed ≡ s.fixed
next-fixed {V = V} {c = c} {s = s} i e = sym (step_keeps i e).same-fixed ∙ onward-part (λ (t : State V). t.fixed) s e c i.same-fixed

pub next-size : {V : Type 0} {c : Collection V} {s : State V} → Inv c s → (e : Event V) → size (next s e) ≡ size s
next-size {V = V} {c = c} {s = s} i e = sym (step_keeps i e).same_size ∙ onward-part (λ (t : State V). size t) s e c i.same_size
