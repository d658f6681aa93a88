use Rattle.std.proofs.Common.{string_bytes, arith}
use Rattle.std.proofs.lemmas.Result.{on_ok_weaker}
use Rattle.replies.proofs.Numbers.{two_pushed}
use Rattle.replies.proofs.text.push_number.Goals as goal

pub returns-in_ok-push_digit-in-10-to-99 : goal.returns-in_ok-push_digit-in-10-to-99
returns-in_ok-push_digit-in-10-to-99 c =
    let second = c.push_digit-in-10-to-99-2 in
    on_ok_weaker second.result
    (λ e. two_pushed c.args.n (string_bytes c.args.text.now) (string_bytes c.push_digit-in-10-to-99.new.text) (string_bytes second.new.text) (omega (arith, c.in-10-to-99)) (omega (arith, c.in-10-to-99)) c.in_ok-push_digit-in-10-to-99.ensures e)
    second.ensures
