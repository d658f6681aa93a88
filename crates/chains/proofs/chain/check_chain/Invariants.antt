use Rattle.std.proofs.Common.{◌≡◌, ◌+◌, ◌≤◌, max, drop}
use Rattle.chains.specs.Chains.{chain_taken}
use Rattle.chains.proofs.chain.check_chain.Given as goal

-- What is left decides, and there was a cell for each atom so far.
abbrev pub invariant-loop-i : goal.invariant-loop-i
invariant-loop-i l = record {
  left : chain_taken l.limit l.size (l.from + l.i) (drop l.i l.atoms) ≡ chain_taken l.limit l.size l.from l.atoms;
  room : l.from + l.i ≤ max l.from l.size;
}
