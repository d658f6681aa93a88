use Rattle.std.proofs.Common.{◌≡◌, ℕ, ◌<◌, ◌≤◌, List, ◌∷◌, ◌++◌, decimal, sym, ap, ◌∙◌, arith}
use Rattle.std.proofs.lemmas.Fmt.{decimal_digit}
use Rattle.std.proofs.lemmas.List.{append_assoc}
use Rattle.std.proofs.lemmas.Result.{MatchResult-from_err}
use Rattle.plan.proofs.Decimals.{digit-more}
use Rattle.plan.proofs.Rows.{stuck-none, stuck-end, full-number, full-none, Full}
use Rattle.plan.proofs.scanner.Scanner.number.Goals as goal
use Rattle.plan.proofs.scanner.Scanner.number.Goals.{else-loop-self-test, then-loop-self-test+in_default}

pub returns-in_err-n : goal.returns-in_err-n
returns-in_err-n c =
    MatchResult-from_err c.from_residual.result _ _ c.from_residual.ensures.0
    (λ _. rw c.in_err-n.ensures.0 (stuck-none c.args.left c.args.self.now.rest.now c.in_err-n.ensures.1))

pub loop-self-init : goal.loop-self-init
loop-self-init c =
    record {
      read = rw (decimal_digit c.in_ok-n.n c.in_ok-n.ensures.0) c.in_ok-n.ensures.1;
      small = omega (arith, c.in_ok-n.ensures.0);
    }

pub loop-self-preserved : goal.loop-self-preserved
loop-self-preserved c =
    let h = c.in-Ok.ensures in
    let n = c.loop-self.n in
    let p : 0 < n = omega (arith, c.loop-self-test.ensures.0) in
    let q : n ≤ 9999 = omega (arith, c.loop-self-test.ensures.1) in
    record {
      read = rw (digit-more n c.in-Ok.d p q h.0, append_assoc) (c.loop-self.invariant.read ∙ ap (λ (t : List ℕ). decimal n ++ t) h.1);
      small = omega (arith, h.0);
    }

pub returns-in_err-byte : goal.returns-in_err-byte
returns-in_err-byte c =
    let n = c.loop-self.n in
    let t = c.loop-self-test.self.rest.now in
    let h : (c.args.self.now.rest.now ≡ decimal n ++ t) × Full n t = elim c.loop-self-test.branch [
      | else-loop-self-test w ↦ rw w.self-is (c.loop-self.invariant.read, full-number n c.loop-self.self.rest.now (λ p q. w.loop-self-test.ensures p (omega arith)))
      | then-loop-self-test+in_default w ↦ rw (w.self-is, w.in_default.ensures.0) (c.loop-self.invariant.read, full-none n c.loop-self.self.rest.now w.in_default.ensures.1)
    ] in
    MatchResult-from_err c.from_residual-in_err-byte.result _ _ c.from_residual-in_err-byte.ensures.0
    (λ _. rw c.in_err-byte.ensures.0
    (stuck-end c.args.left n c.args.self.now.rest.now t h.0 c.loop-self.invariant.small h.1
    (λ u e. c.in_err-byte.ensures.1 u (e ∙ ap (λ (b : ℕ). b ∷ u) (sym c.end_of.ensures)))))
