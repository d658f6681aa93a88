use Rattle.std.proofs.Common.{◌-◌, length, ◌∙◌}
use Rattle.std.proofs.lemmas.Bool.{lt-ltb}
use Rattle.layers.specs.Joins.{joined}
use Rattle.layers.proofs.Joining.{in-first, in-second, get_or-first, get_or-second}
use Rattle.layers.proofs.join.JoinBank.cell.Goals as goal

pub returns-in-First : goal.returns-in-First
returns-in-First g c =
    let s = c.args.self.now in
    let n = c.args.n in
    let first = g.F.Bank.cells s.first in
    let second = g.G.Bank.cells s.second in
    let side = in-first first second n c.in-First.m c.in_ok-m.field-0 c.in_ok-m.ensures c.in-First.is in
    rw (lt-ltb n (length (joined first second)) side.shown, ← get_or-first first second n side.shown side.here)
    (c.cell.ensures ∙ rw (side.at, lt-ltb n (length first) side.here))

pub returns-in-Second : goal.returns-in-Second
returns-in-Second g c =
    let s = c.args.self.now in
    let n = c.args.n in
    let first = g.F.Bank.cells s.first in
    let second = g.G.Bank.cells s.second in
    let side = in-second first second n c.in-Second.m c.in_ok-m.field-0 c.in_ok-m.ensures c.in-Second.is in
    rw (lt-ltb n (length (joined first second)) side.shown, ← get_or-second first second n side.shown side.past)
    (c.cell-in-Second.ensures ∙ rw (side.at, lt-ltb (n - length first) (length second) side.here))
