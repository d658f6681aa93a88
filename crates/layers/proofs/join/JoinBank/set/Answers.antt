use Rattle.std.proofs.Common.{◌≤◌, min, length, rules, arith}
use Rattle.bank.specs.Words.{word_in, with_change}
use Rattle.bank.proofs.Laws.{taken-told, on_cell-refused, put-past}
use Rattle.layers.specs.Joins.{joined, side_of}
use Rattle.layers.proofs.Joining.{length-joined, in-first, in-second, done-first, done-second}
use Rattle.layers.proofs.join.JoinBank.set.Goals as goal

pub returns-in_err-side : goal.returns-in_err-side
returns-in_err-side g c =
    let s = c.args.self.now in
    let n = c.args.n in
    let first = g.F.Bank.cells s.first in
    let second = g.G.Bank.cells s.second in
    let limit = min (g.F.Bank.limit s.first) (g.G.Bank.limit s.second) in
    let w = word_in c.args.change in
    let told = on_cell-refused (joined first second) n (side_of (length first) n) c.in_err-side.field-0.0 c.in_err-side.ensures in
    let past : length first ≤ n = omega (arith, told.0, length-joined first second, (g.F.Bank.sound s.first).few) in
    let here = put-past (λ _. with_change c.args.change) limit first n w past in
    let same = put-past (λ _. with_change c.args.change) limit (joined first second) n w told.0 in
    search rules

pub returns-in-First : goal.returns-in-First
returns-in-First g c =
    let s = c.args.self.now in
    let n = c.args.n in
    let change = c.args.change in
    let first = g.F.Bank.cells s.first in
    let second = g.G.Bank.cells s.second in
    let l = g.F.Bank.limit s.first in
    let m = g.G.Bank.limit s.second in
    let side = in-first first second n c.in-First.m c.in_ok-side.side c.in_ok-side.ensures c.in-First.is in
    let fit = taken-told (min l m) (word_in change) (tt {0}) tt (rw (← c.word_limit.ensures, ← c.word.ensures) c.in_ok-within.ensures) in
    let done = done-first l m change first second _ n _ _ side fit c.set.ensures.answer c.set.ensures.after in
    search rules

pub returns-in-Second : goal.returns-in-Second
returns-in-Second g c =
    let s = c.args.self.now in
    let n = c.args.n in
    let change = c.args.change in
    let first = g.F.Bank.cells s.first in
    let second = g.G.Bank.cells s.second in
    let l = g.F.Bank.limit s.first in
    let m = g.G.Bank.limit s.second in
    let side = in-second first second n c.in-Second.m c.in_ok-side.side c.in_ok-side.ensures c.in-Second.is in
    let fit = taken-told (min l m) (word_in change) (tt {0}) tt (rw (← c.word_limit.ensures, ← c.word.ensures) c.in_ok-within.ensures) in
    let done = done-second l m change first second _ n _ _ side fit c.set-in-Second.ensures.answer c.set-in-Second.ensures.after in
    search rules
