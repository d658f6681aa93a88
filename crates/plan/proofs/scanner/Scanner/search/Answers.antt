use Rattle.std.proofs.Common.{◌≡◌, Some, None, sym}
use Rattle.plan.specs.Names.{table, found}
use Rattle.plan.proofs.Words.{left-after, name-at, name-stuck}
use Rattle.plan.proofs.scanner.Scanner.search.Goals as goal

pub returns-in_default : goal.returns-in_default
returns-in_default c =
    let t = c.args.self.now.rest.now in
    let none : found (table c.args.first) t ≡ None = rw c.verbs-verbs.ensures at (sym c.in_default.ensures.value) in
    rw (left-after c.closest.result t, c.closest.ensures.value, c.verbs-verbs.ensures) (name-stuck c.args.first t none)

pub returns : goal.returns
returns c =
    let t = c.args.self.now.rest.now in
    let some : found (table c.args.first) t ≡ Some c.in-Some.verb = rw c.verbs-verbs.ensures at (sym c.in-Some.ensures.value) in
    rw (left-after _ t, c.word.ensures) (name-at c.args.first t c.in-Some.verb some)
