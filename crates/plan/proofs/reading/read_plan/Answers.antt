use Rattle.std.proofs.Common.{◌<◌, ◌≤◌, length, Some, vec_items, sym, refl, arith}
use Rattle.std.proofs.lemmas.Bool.{ltb-true, ltb-false}
use Rattle.std.proofs.lemmas.Result.{IfOk-weaker}
use Rattle.plan.specs.declared.fault.PlanFault.{PlanFault}
use Rattle.plan.specs.Readings.{Reads}
use Rattle.plan.proofs.Uniqueness.{one-reading, whole-read}
use Rattle.plan.proofs.reading.read_plan.Goals as goal

pub returns-then-is_too_long : goal.returns-then-is_too_long
returns-then-is_too_long c =
    let big : 32768 < length c.args.bytes.now = ltb-true _ _ (sym c.if-is_too_long.ensures) in
    let r : Reads c.args.bytes.now (vec_items c.new.result) (Some PlanFault.TooLong) = record { short = λ h. absurd (omega arith); long = λ h. (c.new.ensures.items, refl) } in
    record { reads = r; whole = whole-read r; only = one-reading }

pub returns : goal.returns
returns c =
    let fits : length c.args.bytes.now ≤ 32768 = ltb-false _ _ (sym c.if-is_too_long.ensures) in
    let r = IfOk-weaker c.read_lines.result _ (λ p. Reads c.args.bytes.now (vec_items p.lines) p.fault) (λ p h. record { short = λ l. h; long = λ l. absurd (omega arith) }) c.read_lines.ensures in
    record { reads = r; whole = IfOk-weaker c.read_lines.result _ _ (λ p h. whole-read h) r; only = one-reading }
