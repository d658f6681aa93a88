use Rattle.std.proofs.Common.{◌≡◌, ℕ, ◌<◌, false, eqb, false-eqb, length, vec_items, sym, ap, ◌∙◌, arith}
use Rattle.std.proofs.lemmas.Bool.{both_ways}
use Rattle.plan.specs.Lines.{opening}
use Rattle.plan.specs.Readings.{Written, Stuck}
use Rattle.plan.proofs.Plans.{sofar-more, parses-fault, opening-test}
use Rattle.plan.proofs.reading.read_lines.Goals as goal
use Rattle.plan.proofs.reading.read_lines.Goals.{then-not-is_empty, else-not-is_empty+then-is_empty}

pub loop-lines-preserved : goal.loop-lines-preserved
loop-lines-preserved c =
    let ls = vec_items c.loop-lines.lines in
    let first = c.is_empty-in-loop-lines.ensures ∙ ap (λ (n : ℕ). eqb n 0) c.loop-lines.lines.ok.0 ∙ sym (opening-test ls) in
    rw c.in_ok-push-in-Ok.ensures.items
    (sofar-more c.args.bytes.now ls c.loop-lines.text.rest.now c.loop-lines.invariant c.in-Ok.line c.line.new.text.rest.now
    (rw first at c.in-Ok.ensures))

pub returns-in-Err : goal.returns-in-Err
returns-in-Err c =
    let ls = vec_items c.loop-lines.lines in
    let left = c.loop-lines.text.rest.now in
    let rest = c.line.new.text.rest.now in
    let test = ap (λ (n : ℕ). eqb n 0) c.loop-lines.lines.ok.0 ∙ sym (opening-test ls) in
    let stuck : Stuck (Written (opening ls)) left rest = rw (c.is_empty-in-loop-lines.ensures ∙ test) at c.in-Err.ensures in
    let inside : opening ls ≡ false → 0 < length left = λ later. elim c.if-not-is_empty.branch [
      | then-not-is_empty w ↦ omega (arith, false-eqb (length left) 0 w.if-not-is_empty.ensures)
      | else-not-is_empty+then-is_empty w ↦ absurd (both_ways (opening ls) later (sym test ∙ sym w.is_empty-else-not-is_empty.ensures ∙ w.if-is_empty.true))
    ] in
    rw (c.fault_after.ensures, c.len.ensures, c.loop-lines.lines.ok.0) (parses-fault c.args.bytes.now ls left c.loop-lines.invariant rest stuck inside)
