use Rattle.std.proofs.Common.{◌≡◌, drop}
use Rattle.collector.specs.Turns.{offers}
use Rattle.store.specs.Meaning.{heap_of}
use Rattle.store.proofs.heap.Heap.offer_all.Given as goal

-- What is left to offer leads to the same heap.
abbrev pub invariant-loop-word : goal.invariant-loop-word
invariant-loop-word g l =
    (offers (drop l.word-index l.words) (heap_of g.B.Bank.cells l.self) ≡ offers l.words (heap_of g.B.Bank.cells l.initial.self))
    × (g.B.Bank.limit l.self.bank ≡ g.B.Bank.limit l.initial.self.bank)
    × (g.B.Bank.beside l.self.bank ≡ g.B.Bank.beside l.initial.self.bank)
