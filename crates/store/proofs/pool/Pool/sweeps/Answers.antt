use Rattle.std.proofs.Common.{◌≡◌, ◌<◌, ◌≤◌, ◌-◌, ℕ, min, length, refl, ap, ap₂, ◌∙◌, arith}
use Rattle.collector.specs.Turns.{sweeps}
use Rattle.store.specs.Meaning.{ground_of}
use Rattle.store.proofs.Sweeps.{sweeps-most, sweeps-more, sweep-place, left-after, after-few}
use Rattle.store.proofs.pool.Pool.sweeps.Goals as goal

pub loop-left-init : goal.loop-left-init
loop-left-init g c =
    let cells = g.B.Bank.cells c.args.bank.now in
    let g0 = ground_of g.B.Bank.cells c.args.bank.now c.args.self.now in
    let n : c.min-swept.result ≡ min c.args.k (length cells - c.args.self.now.sweeper) =
    c.min-swept.ensures ∙ ap₂ min c.from.ensures (c.saturating_sub.ensures ∙ ap (λ (s : ℕ). s - c.args.self.now.sweeper) c.size.ensures) in (
      ap (λ (j : ℕ). sweeps (g.B.Bank.limit c.args.bank.now) j g0) n ∙ sweeps-most (g.B.Bank.limit c.args.bank.now) c.args.k g0,
      omega (arith, n),
      refl,
      refl,
    )

pub loop-left-preserved : goal.loop-left-preserved
loop-left-preserved g c =
    let limit = g.B.Bank.limit in
    let e = ground_of g.B.Bank.cells c.loop-left.bank c.loop-left.pool in
    let t = ground_of g.B.Bank.cells c.sweep-was_free.new.bank c.sweep-was_free.new.self in
    let some : 0 < c.loop-left.left = omega (arith, c.loop-left-test.true) in
    let few : c.run_after-run.result ≤ c.loop-left.left - 1 =
    rw c.run_after-run.ensures (after-few c.sweep-was_free.result (g.B.Bank.cells c.sweep-was_free.new.bank) c.sweep-was_free.new.self.sweeper (c.loop-left.left - 1)) in (
      sweeps-more (limit c.loop-left.bank) (limit c.sweep-was_free.new.bank) c.loop-left.left c.run_after-run.result c.sweep-was_free.result e t some c.sweep-was_free.ensures.limit
          c.sweep-was_free.ensures.ground c.run_after-run.ensures
          ∙ c.loop-left.invariant.0,
      left-after (limit c.loop-left.bank) c.loop-left.left c.run_after-run.result e t some c.loop-left.invariant.1 few c.sweep-was_free.ensures.ground,
      c.sweep-was_free.ensures.limit ∙ c.loop-left.invariant.2,
      c.sweep-was_free.ensures.beside ∙ c.loop-left.invariant.3,
    )

-- What a round adds fits.
pub overflow_add-pool : goal.overflow_add-pool
overflow_add-pool g c =
    let after = c.sweep-was_free.new in
    let cells = (g.B.Bank.sound c.loop-left.bank).few in
    let run = after-few c.sweep-was_free.result (g.B.Bank.cells after.bank) after.self.sweeper (c.loop-left.left - 1) in
    let place = sweep-place (g.B.Bank.limit c.loop-left.bank) (ground_of g.B.Bank.cells c.loop-left.bank c.loop-left.pool) (ground_of g.B.Bank.cells after.bank after.self) c.sweep-was_free.ensures.ground in
    omega (arith, cells, run, place, c.run_after-run.ensures, c.loop-left-test.true, c.loop-left.invariant.1)

pub overflow_add-left : goal.overflow_add-left
overflow_add-left g c =
    let after = c.sweep-was_free.new in
    let cells = (g.B.Bank.sound c.loop-left.bank).few in
    let run = after-few c.sweep-was_free.result (g.B.Bank.cells after.bank) after.self.sweeper (c.loop-left.left - 1) in
    omega (arith, cells, run, c.run_after-run.ensures, c.loop-left-test.true, c.loop-left.invariant.1)

pub overflow_sub-left-in-loop-left : goal.overflow_sub-left-in-loop-left
overflow_sub-left-in-loop-left g c =
    let after = c.sweep-was_free.new in
    let run = after-few c.sweep-was_free.result (g.B.Bank.cells after.bank) after.self.sweeper (c.loop-left.left - 1) in
    omega (arith, run, c.run_after-run.ensures, c.loop-left-test.true)
