use Rattle.std.proofs.Common.{◌≡◌, ◌-◌, ◌≤◌, length}
use Rattle.collector.specs.Turns.{sweeps}
use Rattle.store.specs.Meaning.{ground_of}
use Rattle.store.proofs.pool.Pool.sweeps.Given as goal

-- The sweeps that are left lead to the same ground, and there is a cell for each.
abbrev pub invariant-loop-left : goal.invariant-loop-left
invariant-loop-left g l =
    let limit = g.B.Bank.limit in
    let cells = g.B.Bank.cells in
    (sweeps (limit l.bank) l.left (ground_of cells l.bank l.pool) ≡ sweeps (limit l.initial.bank) l.k (ground_of cells l.initial.bank l.initial.self))
    × (l.left ≤ length (cells l.bank) - l.pool.sweeper)
    × (limit l.bank ≡ limit l.initial.bank)
    × (g.B.Bank.beside l.bank ≡ g.B.Bank.beside l.initial.bank)

abbrev pub decreases-loop-left : goal.decreases-loop-left
decreases-loop-left g l = l.left
