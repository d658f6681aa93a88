use Rattle.std.proofs.Common.{◌≡◌, length, rules}
use Rattle.layers.specs.Holds.{kept_for}
use Rattle.layers.proofs.Holding.{keep-shows}
use Rattle.layers.proofs.hold.Hold.keep.Goals as goal

pub returns-clause-after : goal.returns-clause-after
returns-clause-after g c =
    let s = c.args.self.now in
    let n = c.args.n in
    let full : length s.places.slots ≡ 16 = search rules in
    rw (c.keep.ensures, c.evict.ensures.rest (kept_for n c.args.cell), c.evict.ensures.below, c.evict.ensures.fixed)
    (keep-shows (g.B.Bank.limit s.below) s.places.slots (g.B.Bank.cells s.below) n c.args.cell c.requires.here full c.requires.whole)
