use Rattle.std.proofs.Common.{◌≡◌, suc, ◌+◌, ◌-◌, ◌<◌, [], ◌++◌, length, take, ◌∙◌, arith}
use Rattle.std.proofs.lemmas.List.{append-nil, length-set, take_all, take_more_set}
use Rattle.plan.proofs.Rows.{read_more, read_all}
use Rattle.plan.proofs.scanner.Scanner.numbers.Goals as goal

pub loop-i-preserved : goal.loop-i-preserved
loop-i-preserved g c =
    let i = c.loop-i.i in
    let items = c.loop-i.n-items in
    let left = g.row.N - 1 - i in
    let before : g.row.N - i ≡ suc left = omega arith in
    let then : g.row.N - (i + 1) ≡ left = omega arith in
    let l : i < length items = omega (arith, c.loop-i.invariant.long) in
    record {
      long = length-set items i c.in_ok-n.field-0 ∙ c.loop-i.invariant.long;
      read = rw (then, take_more_set items i c.in_ok-n.field-0 l) (read_more (rw before at c.loop-i.invariant.read) c.in_ok-n.ensures);
    }

pub returns : goal.returns
returns g c =
    let i = c.loop-i.i in
    let items = c.loop-i.n-items in
    let none : g.row.N - i ≡ 0 = omega arith in
    let all : take i items ++ [] ≡ items = append-nil (take i items) ∙ take_all i items (omega (arith, c.loop-i.invariant.long)) in
    rw all at (read_all (rw none at c.loop-i.invariant.read))
