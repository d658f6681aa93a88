use Rattle.std.proofs.Common.{◌≡◌, ◌+◌, ◌-◌, ◌≤◌}
use Rattle.store.specs.Passing.{free_run}
use Rattle.store.proofs.pool.free_run.Given as goal

-- What is passed and what is still to pass are all that is passed.
abbrev pub invariant-loop-next : goal.invariant-loop-next
invariant-loop-next g l =
    (l.n ≤ l.next)
    × (l.next ≤ l.n + l.most)
    × (l.next - l.n + free_run (g.B.Bank.cells l.bank) l.next (l.most - (l.next - l.n)) ≡ free_run (g.B.Bank.cells l.bank) l.n l.most)
