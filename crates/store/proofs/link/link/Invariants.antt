use Rattle.std.proofs.Common.{◌≡◌, ℕ, ◌+◌, ◌-◌, ◌<◌, length}
use Rattle.collector.specs.States.{at}
use Rattle.store.proofs.Links.{free}
use Rattle.store.proofs.link.link.Given as goal

-- The cells below n are linked.
abbrev pub invariant-loop-n : goal.invariant-loop-n
invariant-loop-n g l =
    ((k : ℕ) → k < l.n → at (g.B.Bank.cells l.bank) k ≡ free (k + 1) (l.size - (k + 1)))
    × (length (g.B.Bank.cells l.bank) ≡ length (g.B.Bank.cells l.initial.bank))
    × (g.B.Bank.limit l.bank ≡ g.B.Bank.limit l.initial.bank)
    × (g.B.Bank.beside l.bank ≡ g.B.Bank.beside l.initial.bank)
