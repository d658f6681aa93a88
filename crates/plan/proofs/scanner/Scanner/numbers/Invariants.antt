use Rattle.std.proofs.Common.{◌≡◌, ◌-◌, length, take}
use Rattle.plan.proofs.Rows.{Read}
use Rattle.plan.proofs.scanner.Scanner.numbers.Given as goal

abbrev pub invariant-loop-i : goal.invariant-loop-i
invariant-loop-i g l =
    record { long : length l.n-items ≡ g.row.N; read : Read g.row.N (g.row.N - l.i) (take l.i l.n-items) l.fn.self.rest.now l.self.rest.now }
