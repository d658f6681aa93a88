use Rattle.std.proofs.Common.{◌≡◌, suc, ◌+◌, ◌-◌, [], ◌∷◌, ◌++◌, length, get_or, vec_items, sym, refl, ap, ◌∙◌, arith}
use Rattle.std.proofs.lemmas.List.{append-nil}
use Rattle.std.proofs.lemmas.Slice.{pushed}
use Rattle.bank.specs.Words.{blank}
use Rattle.bank.proofs.Laws.{asked-ok, on_cell-refused}
use Rattle.chains.specs.Chains.{atom_in}
use Rattle.chains.proofs.Chaining.{none_from, past-from, more-from, no-atom, read_more, read_all}
use Rattle.chains.proofs.chain.read_chain.Goals as goal
use Rattle.chains.proofs.chain.read_chain.Goals.{in-Atom+in_ok-push, in_default-car}

pub loop-preserved : goal.loop-preserved
loop-preserved g c =
    let cells = g.B.Bank.cells c.args.bank.now in
    let k = length cells - (c.loop.counter + 1) in
    let fuel : length cells - c.loop.counter ≡ suc k = omega (arith, c.loop-test.true, c.size-end.ensures) in
    let told = asked-ok cells c.in-Cell.n c.in-Ok.cell c.in-Ok.ensures in
    let more = more-from _ k cells c.loop.word c.in-Cell.n c.in-Ok.cell c.in-Cell.is fuel told.0 told.1 in
    let seen : vec_items c.match-cell-2.atoms ≡ vec_items c.loop.atoms ++ atom_in c.in-Ok.cell.car =
    elim c.match-cell-2.branch [
      | in-Atom+in_ok-push w ↦
          ap vec_items w.atoms-is
          ∙ pushed (w.in-Atom.code ∷ []) refl w.in_ok-push.was w.push.ensures.items
          ∙ ap (λ t. vec_items c.loop.atoms ++ t) (sym (ap atom_in w.in-Atom.is))
      | in_default-car w ↦
          ap vec_items w.atoms-is
          ∙ sym (append-nil (vec_items c.loop.atoms))
          ∙ ap (λ t. vec_items c.loop.atoms ++ t) (sym (no-atom c.in-Ok.cell.car w.in_default-car.not-Atom))
    ] in
    read_more _ _ _ _ _ (atom_in c.in-Ok.cell.car) seen c.loop.invariant more

pub returns-in_default : goal.returns-in_default
returns-in_default g c = read_all _ _ _ c.loop.invariant (none_from _ _ c.loop.word c.in_default.not-Cell)

pub returns-in_default-cell : goal.returns-in_default-cell
returns-in_default-cell g c =
    let cells = g.B.Bank.cells c.args.bank.now in
    let told = on_cell-refused cells c.in-Cell.n (get_or cells c.in-Cell.n blank) c.in_default-cell.field-0 c.in_default-cell.ensures in
    read_all _ _ _ c.loop.invariant (past-from _ cells c.loop.word c.in-Cell.n c.in-Cell.is told.0)
