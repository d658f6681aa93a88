-- What a store holds, as the state that the definitions speak of.
use Rattle.std.specs.Prelude.{ℕ, List, Option}
use Rattle.bank.specs.Banks.{Sound}
use Rattle.bank.specs.declared.word.Cell.{Cell}
use Rattle.pacing.specs.declared.effort.Effort.{Effort}
use Rattle.collector.specs.States.{Heap as HeapState, Pool as PoolState, Fixed, State, size}
use Rattle.collector.specs.Turns.{Ground}
use Rattle.collector.specs.Laws.{Grounded}
use Rattle.store.specs.declared.heap.Heap.{Heap}
use Rattle.store.specs.declared.pool.Pool.{Pool}
use Rattle.store.specs.declared.store.Store.{Store}

abbrev pub heap_of : {B : Type 0} → (B → List Cell) → Heap B → HeapState
heap_of cells h = record { cells = cells h.bank; stack = h.waiting }

abbrev pub pool_of : Pool → PoolState
pool_of p = record { head = p.head; count = p.count; sweeper = p.sweeper }

-- What a sweep changes.
abbrev pub ground_of : {B : Type 0} → (B → List Cell) → B → Pool → Ground
ground_of cells bank pool = record { cells = cells bank; pool = pool_of pool }

-- What no call changes, from the meanings of a bank, a kind and a rule.
abbrev pub fixed_by : {B K R V : Type 0} → (B → ℕ) → (K → V → ℕ) → (K → ℕ → Option V) → (R → ℕ) → B → K → R → Effort → Fixed V
fixed_by limit coded valued floor bank kind rule effort = record {
  atoms = record { limit = limit bank; coded = coded kind; valued = valued kind };
  floor = floor rule;
  k1 = effort.k1;
  k2 = effort.k2;
}

abbrev pub meant : {B K R V : Type 0} → (B → ℕ) → (B → List Cell) → (K → V → ℕ) → (K → ℕ → Option V) → (R → ℕ) → Store B K R → State V
meant limit cells coded valued floor s = record {
  fixed = fixed_by limit coded valued floor s.heap.bank s.kind s.rule s.effort;
  heap = heap_of cells s.heap;
  pool = pool_of s.pool;
  registers = s.registers.words;
  phase = s.phase;
}

-- What the interfaces promise of any store: the bank's law, and the effort's bounds from below.
pub grounded-by : {B K R V : Type 0} (limit : B → ℕ) (cells : B → List Cell) (coded : K → V → ℕ) (valued : K → ℕ → Option V) (floor : R → ℕ) → ((b : B) → Sound (limit b) (cells b))
    → (s : Store B K R) → Grounded (meant limit cells coded valued floor s).fixed (size (meant limit cells coded valued floor s))
grounded-by limit cells coded valued floor sound s = record {
  few = (sound s.heap.bank).few;
  wide = (sound s.heap.bank).wide;
  scans_some = s.effort.fits.0.0;
  sweeps_some = s.effort.fits.1.0;
}
