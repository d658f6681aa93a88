use Rattle.std.proofs.Common.{◌<◌, length, arith}
use Rattle.bank.specs.Words.{word_in}
use Rattle.bank.proofs.Laws.{writable-ok}
use Rattle.layers.specs.Holds.{held, length-held}
use Rattle.layers.proofs.Holding.{may-keep}
use Rattle.layers.proofs.hold.HoldBank.set.Goals as goal

pub keep-requires : goal.keep-requires
keep-requires g c =
    let s = c.args.self.now in
    let n = c.args.n in
    let limit = g.B.Bank.limit s.below in
    let cells = g.B.Bank.cells s.below in
    let told = writable-ok limit (held limit s.places.slots cells) n (word_in c.args.change) c.in_ok-cell.cell (rw (← c.word.ensures) c.in_ok-cell.ensures) in
    let here : n < length cells = omega (arith, told.0, length-held) in
    record {
      here = here;
      whole = rw c.with.ensures (may-keep limit c.args.change s.places.slots cells n c.in_ok-cell.cell told.1 here told.2);
    }
