use Rattle.std.proofs.Common.{arith, ap, sym, ◌∙◌}
use Rattle.collector.specs.Turns.{pushed}
use Rattle.store.proofs.Stacks.{backwards-push, backwards-full}
use Rattle.store.proofs.waiting.Waiting.push.Goals as goal

pub returns-then-self-lt-MOST : goal.returns-then-self-lt-MOST
returns-then-self-lt-MOST c = backwards-push c.self.inside.len c.args.n c.self.inside.cells (omega arith) (omega arith) ∙ ap (pushed c.args.n) c.self.view_is

pub returns-else-self-lt-MOST : goal.returns-else-self-lt-MOST
returns-else-self-lt-MOST c = sym c.self.view_is ∙ backwards-full c.self.inside.len c.args.n c.self.inside.cells (omega arith) ∙ ap (pushed c.args.n) c.self.view_is
