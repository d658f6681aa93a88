use Rattle.std.proofs.Common.{◌≡◌}
use lib.Seq.{paste}
use Rattle.chains.specs.Chains.{chain}
use Rattle.chains.proofs.chain.write_chain.Given as goal

-- The first i cells of the chain stand.
abbrev pub invariant-loop-i : goal.invariant-loop-i
invariant-loop-i g l =
    let bank = g.B.Bank in
    (bank.limit l.bank ≡ bank.limit l.initial.bank)
    × (bank.beside l.bank ≡ bank.beside l.initial.bank)
    × (bank.cells l.bank ≡ paste (bank.cells l.initial.bank) l.from (chain l.from l.atoms) l.i)
