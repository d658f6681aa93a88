use Rattle.std.proofs.Common.{◌≡◌, ◌%◌, None, sym, ◌∙◌, arith}
use Rattle.std.proofs.lemmas.Grind.{elements}
use Rattle.std.proofs.lemmas.List.{length-set}
use Rattle.layers.specs.Holds.{none_kept}
use Rattle.layers.proofs.Holding.{spill-keeps, held_none, none_kept-all}
use Rattle.layers.proofs.hold.Hold.settle.Goals as goal

pub loop-i-preserved : goal.loop-i-preserved
loop-i-preserved g c =
    let s = c.loop-i.self in
    let inv = c.loop-i.invariant in
    record {
      limit = c.spill.ensures.fixed ∙ inv.limit;
      beside = c.spill.ensures.beside ∙ inv.beside;
      shown =
          rw (c.spill.ensures.empty, c.spill.ensures.below, inv.limit)
          (spill-keeps (g.B.Bank.limit c.args.self.now.below) s.places.slots (g.B.Bank.cells s.below) c.loop-i.i inv.full ∙ inv.shown);
      full = rw c.spill.ensures.empty (length-set s.places.slots (c.loop-i.i % 16) None ∙ inv.full);
      empty = λ k. rw c.spill.ensures.empty (grind (arith, elements, inv.empty k, inv.full));
    }

pub returns : goal.returns
returns g c =
    let bank = g.B.Bank in
    let s = c.loop-i.self in
    let inv = c.loop-i.invariant in
    let none : s.places.slots ≡ none_kept = none_kept-all s.places.slots inv.full (λ k h. inv.empty k (omega arith)) in
    record {
      same = rw inv.limit inv.shown;
      below = sym (held_none (bank.limit c.args.self.now.below) (bank.cells s.below)) ∙ rw none at inv.shown;
      empty = none;
      fixed = inv.limit;
      beside = inv.beside;
    }
