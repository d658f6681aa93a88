use Rattle.std.proofs.Common.{◌≡◌, ◌≤◌, ◌++◌, length, decimal}
use Rattle.plan.proofs.scanner.Scanner.number.Given as goal

abbrev pub invariant-loop-self : goal.invariant-loop-self
invariant-loop-self l = record { read : l.fn.self.rest.now ≡ decimal l.n ++ l.self.rest.now; small : l.n ≤ 99999 }

abbrev pub decreases-loop-self : goal.decreases-loop-self
decreases-loop-self l = length l.self.rest.now
