use Rattle.std.proofs.Common.{◌≡◌, ◌-◌, ◌++◌, length, vec_items}
use Rattle.bank.specs.declared.word.Word.{Word}
use Rattle.chains.specs.Chains.{atoms_from}
use Rattle.chains.proofs.chain.read_chain.Given as goal

-- What was read, and then what is left.
abbrev pub invariant-loop : goal.invariant-loop
invariant-loop g l =
    let cells = g.B.Bank.cells l.bank in
    vec_items l.atoms ++ atoms_from (length cells - l.counter) cells l.word ≡ atoms_from (length cells) cells (Word.Cell l.start)
