use Rattle.std.proofs.Common.{◌+◌, get_or, Ok}
use Rattle.bank.specs.Words.{blank}
use Rattle.bank.proofs.Laws.{on_cell-told}
use Rattle.layers.specs.Windows.{windowed}
use Rattle.layers.proofs.Windowing.{on_cell-windowed, get_or-windowed}
use Rattle.layers.proofs.window.WindowBank.cell.Goals as goal

pub returns : goal.returns
returns g c =
    let s = c.args.self.now in
    let n = c.args.n in
    let cells = g.B.Bank.cells s.below in
    let told = on_cell-told (windowed s.offset s.len cells) n (s.offset + n) c.in_ok-m.m c.in_ok-m.ensures in
    rw (← get_or-windowed s.offset s.len cells n told.0, c.cell.ensures, told.1) (on_cell-windowed s.offset s.len cells n (Ok (get_or cells (s.offset + n) blank)) told.0)
