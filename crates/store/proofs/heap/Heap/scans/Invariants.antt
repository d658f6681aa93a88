use Rattle.std.proofs.Common.{◌≡◌, ◌+◌, ◌-◌, ◌≤◌, length}
use Rattle.collector.specs.Turns.{scans, scanned}
use Rattle.store.specs.Meaning.{heap_of}
use Rattle.store.proofs.heap.Heap.scans.Given as goal

-- The scans that are left lead to the same heap and the same count.
abbrev pub invariant-loop : goal.invariant-loop
invariant-loop g l =
    let heap = heap_of g.B.Bank.cells in
    (scans (l.k - l.counter) (heap l.self) ≡ scans l.k (heap l.initial.self))
    × (l.popped + length (scanned (l.k - l.counter) (heap l.self)) ≡ length (scanned l.k (heap l.initial.self)))
    × (l.popped ≤ l.counter)
    × (g.B.Bank.limit l.self.bank ≡ g.B.Bank.limit l.initial.self.bank)
    × (g.B.Bank.beside l.self.bank ≡ g.B.Bank.beside l.initial.self.bank)
