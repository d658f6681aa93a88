use Rattle.std.proofs.lemmas.Result.{MatchResult-weaker}
use Rattle.plan.proofs.Words.{line-rest, line_at}
use Rattle.plan.proofs.Texts.{stuck-on}
use Rattle.plan.proofs.reading.line.Goals as goal

pub returns : goal.returns
returns c =
    let n = c.in_ok-verb.ensures in
    MatchResult-weaker c.line.result c.line.ensures (λ l h. line_at n h) (λ e h. stuck-on (line-rest c.args.first c.in_ok-verb.field-0 n.place) n.cut h)
