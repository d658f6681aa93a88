use Rattle.std.proofs.Common.{◌≡◌, ℕ, List, [], ◌∷◌, ◌++◌, string_bytes, refl, sym, ap, ◌∙◌, append-nil}
use Rattle.std.proofs.lemmas.Result.{on_ok_weaker}
use Rattle.replies.specs.Replies.{line_of}
use Rattle.replies.specs.declared.fault.LineFault.{LineFault}
use Rattle.replies.specs.declared.reply.Reply.{Reply}
use Rattle.replies.proofs.session.push_replies.Goals as goal

pub returns-in-Err : goal.returns-in-Err
returns-in-Err c =
    let before : List ℕ = string_bytes c.args.text.now in
    let reply : Reply = Reply.Refused (LineFault.Effort c.in-Err.fault) in
    let line : before ++ line_of (Reply.Refused c.into.result) ≡ before ++ (line_of reply ++ []) =
    ap (λ (f : LineFault). before ++ line_of (Reply.Refused f)) c.into.ensures ∙ ap (λ (xs : List ℕ). before ++ xs) (sym (append-nil (line_of reply))) in
    rw c.in-Err.is
    (on_ok_weaker c.push_line.result (λ e. record { replies = reply ∷ []; replied = refl; printed = e ∙ line }) c.push_line.ensures)
