use Rattle.std.proofs.Common.{sym, ◌∙◌}
use Rattle.atoms.specs.Laws.{has_value}
use Rattle.atoms.proofs.kind.read.Goals as goal

pub returns : goal.returns
returns g c v =
    let law = g.K.Kind.lawful c.args.kind.now in
    (λ e. law.only c.args.code v (sym c.value.ensures ∙ e), λ e. c.value.ensures ∙ sym (has_value law v c.args.code e))
