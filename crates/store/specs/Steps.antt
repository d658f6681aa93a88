-- The parts of a turn: the share of work that its phase has, and whether the phase is over.
use Rattle.std.specs.Prelude.{Bool, length, nat_le}
use Rattle.listcalls.specs.declared.phase.Phase.{Phase}
use Rattle.collector.specs.Lists.{is_empty}
use Rattle.collector.specs.States.{State}
use Rattle.collector.specs.Turns.{Ground, ground, scans, sweeps}
use Rattle.collector.specs.Calls.{with_heap}

abbrev pub with_phase : {V : Type 0} → Phase → State V → State V
with_phase phase s = record { fixed = s.fixed; heap = s.heap; pool = s.pool; registers = s.registers; phase = phase }

abbrev pub with_ground : {V : Type 0} → Ground → State V → State V
with_ground g s = record {
  fixed = s.fixed;
  heap = record { cells = g.cells; stack = s.heap.stack };
  pool = g.pool;
  registers = s.registers;
  phase = s.phase;
}

-- What a turn does before it looks whether its phase is over: nothing when idle.
abbrev pub shared_in : {V : Type 0} → Phase → State V → State V
shared_in Phase.Idle s = s
shared_in Phase.Mark s = with_heap (scans s.fixed.k1 s.heap) s
shared_in Phase.Sweep s = with_ground (sweeps s.fixed.atoms.limit s.fixed.k2 (ground s)) s

abbrev pub shared : {V : Type 0} → State V → State V
shared s = shared_in s.phase s

-- A phase is over by the start rule's yes, by an empty stack, by a sweeper past the last cell.
abbrev pub over_in : {V : Type 0} → Phase → Bool → State V → Bool
over_in Phase.Idle says s = says
over_in Phase.Mark says s = is_empty s.heap.stack
over_in Phase.Sweep says s = nat_le (length s.heap.cells) s.pool.sweeper

abbrev pub over : {V : Type 0} → Bool → State V → Bool
over says s = over_in s.phase says s
