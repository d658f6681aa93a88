use Rattle.std.proofs.Common.{◌∙◌, arith}
use Rattle.store.specs.Meaning.{heap_of}
use Rattle.store.proofs.Scans.{scans-more, scanned-more, latest-few}
use Rattle.store.proofs.heap.Heap.scans.Goals as goal

pub loop-preserved : goal.loop-preserved
loop-preserved g c =
    let h = heap_of g.B.Bank.cells c.loop.self in
    let t = heap_of g.B.Bank.cells c.scan-popped.new.self in
    let one = latest-few h.stack in
    let r = c.scan-popped.ensures.popped in (
      scans-more h t c.args.k c.loop.counter c.loop-test.true c.scan-popped.ensures.heap ∙ c.loop.invariant.0,
      scanned-more h t c.args.k c.loop.counter c.loop.popped c.scan-popped.result c.loop-test.true c.scan-popped.ensures.heap r ∙ c.loop.invariant.1,
      omega arith,
      c.scan-popped.ensures.limit ∙ c.loop.invariant.3,
      c.scan-popped.ensures.beside ∙ c.loop.invariant.4,
    )
