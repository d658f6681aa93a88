use Rattle.std.proofs.Common.{◌≡◌, ◌++◌, drop, string_bytes}
use Rattle.replies.specs.Replies.{text_of_replies}
use Rattle.replies.specs.Serving.{zone_state, floor_in, replies_from}
use Rattle.replies.proofs.serving.serve_lines.Given as goal

-- What is there and what is still to come are what was there and all the replies.
abbrev pub invariant-loop-line : goal.invariant-loop-line
invariant-loop-line g l =
    let state = zone_state g.B.Bank.limit g.B.Bank.cells in
    string_bytes l.text ++ text_of_replies (replies_from (floor_in l.store) (state l.store) (drop l.line-index l.lines))
    ≡ string_bytes l.initial.text ++ text_of_replies (replies_from (floor_in l.initial.store) (state l.initial.store) l.lines)
