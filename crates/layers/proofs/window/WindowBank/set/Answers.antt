use Rattle.std.proofs.Common.{◌+◌, Ok, sym, ◌∙◌}
use Rattle.bank.specs.Words.{word_in, with_change}
use Rattle.bank.specs.Banks.{taken}
use Rattle.bank.proofs.Laws.{on_cell-told, on_cell-refused, put-past}
use Rattle.layers.specs.Windows.{windowed}
use Rattle.layers.proofs.Windowing.{on_cell-windowed, framed-windowed, put-windowed, framed-put, around-put}
use Rattle.layers.proofs.window.WindowBank.set.Goals as goal

pub returns-in_err-m-clause-framed : goal.returns-in_err-m-clause-framed
returns-in_err-m-clause-framed g c =
    let s = c.args.self.now in
    let n = c.args.n in
    let change = c.args.change in
    let cells = g.B.Bank.cells s.below in
    let shown = windowed s.offset s.len cells in
    let told = on_cell-refused shown n (s.offset + n) c.in_err-m.field-0.0 c.in_err-m.ensures in
    rw (← put-past (λ _. with_change change) (g.B.Bank.limit s.below) shown n (word_in change) told.0) (sym (framed-windowed s.offset s.len cells))

pub returns : goal.returns
returns g c =
    let s = c.args.self.now in
    let n = c.args.n in
    let change = c.args.change in
    let limit = g.B.Bank.limit s.below in
    let cells = g.B.Bank.cells s.below in
    let told = on_cell-told (windowed s.offset s.len cells) n (s.offset + n) c.in_ok-m.m c.in_ok-m.ensures in
    let now = rw told.1 at c.set.ensures.after in
    let answer = rw told.1 at c.set.ensures.answer in
    let around = around-put limit s.offset s.len change cells n told.0 in
    record {
      answer = answer ∙ on_cell-windowed s.offset s.len cells n (taken limit (word_in change) (Ok tt)) told.0;
      after = rw now (put-windowed limit s.offset s.len change cells n told.0);
      fixed = c.set.ensures.fixed;
      framed = rw now (sym (framed-put limit s.offset s.len change cells n told.0));
      beside = rw (c.set.ensures.beside, now, around.0, around.1);
    }
