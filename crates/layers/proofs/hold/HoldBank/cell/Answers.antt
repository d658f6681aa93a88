use Rattle.std.proofs.Common.{length, rules}
use Rattle.std.proofs.lemmas.Bool.{lt-ltb}
use Rattle.bank.proofs.Laws.{asked-ok}
use Rattle.layers.specs.Holds.{length-held}
use Rattle.layers.proofs.Holding.{get_or-held}
use Rattle.layers.proofs.hold.HoldBank.cell.Goals as goal

pub returns-in_err-below : goal.returns-in_err-below
returns-in_err-below g c = rw length-held (search rules)

pub returns : goal.returns
returns g c =
    let s = c.args.self.now in
    let cells = g.B.Bank.cells s.below in
    let told = asked-ok cells c.args.n c.in_ok-below.below c.in_ok-below.ensures in
    rw (length-held, lt-ltb c.args.n (length cells) told.0, c.over.ensures, c.word_limit.ensures, told.1, get_or-held (g.B.Bank.limit s.below) s.places.slots cells c.args.n told.0)
