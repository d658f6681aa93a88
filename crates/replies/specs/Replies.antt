-- The replies to a plan's lines, and how they are written.
use Rattle.std.specs.Prelude.{ℕ, true, false, List, [], ◌∷◌, ◌++◌, Ok, Err, Result, codes, decimal}
use Rattle.atoms.specs.declared.zone.Zone.{Zone}
use Rattle.atoms.specs.Refusals.{spoken}
use Rattle.atoms.specs.Zones.{pair_text}
use Rattle.listcalls.specs.declared.call.Answer.{Answer}
use Rattle.listcalls.specs.declared.call.Seen.{Seen}
use Rattle.collector.specs.Outcomes.{Outcome}
use Rattle.replies.specs.declared.fault.LineFault.{LineFault}
use Rattle.replies.specs.declared.reply.Reply.{Reply}
use Rattle.replies.specs.Refusals.{told}

abbrev pub seen_reply : Seen Zone → Reply
seen_reply Seen.Nil = Reply.Nil
seen_reply Seen.Cell = Reply.Cell
seen_reply (Seen.Atom z) = Reply.Atom z

abbrev pub answer_reply : Answer Zone → Reply
answer_reply Answer.Done = Reply.Done
answer_reply (Answer.Worked work) = Reply.Worked work
answer_reply (Answer.Saw seen) = seen_reply seen
answer_reply (Answer.Same same) = Reply.Same same

-- The reply by the outcome of a call.
abbrev pub reply_of : Outcome Zone → Reply
reply_of (Ok a) = answer_reply a
reply_of (Err fault) = Reply.Refused (LineFault.Store fault)

-- A reply or a refusal, as one reply.
abbrev pub reply_in : Result Reply LineFault → Reply
reply_in (Ok r) = r
reply_in (Err fault) = Reply.Refused fault

-- How a reply is written.
abbrev pub reply_text : Reply → List ℕ
reply_text Reply.Done = codes "ok"
reply_text (Reply.Worked work) = codes "ok " ++ decimal work
reply_text Reply.Nil = codes "nil"
reply_text Reply.Cell = codes "cell"
reply_text (Reply.Atom z) = codes "zone " ++ pair_text z
reply_text (Reply.Same true) = codes "yes"
reply_text (Reply.Same false) = codes "no"
reply_text (Reply.Refused fault) = spoken (told fault)

-- A reply as a line, which ends with byte 10; and some replies, a line for each.
abbrev pub line_of : Reply → List ℕ
line_of r = reply_text r ++ codes "\n"

abbrev pub text_of_replies : List Reply → List ℕ
text_of_replies [] = []
text_of_replies (r ∷ rs) = line_of r ++ text_of_replies rs
