-- The replies to some lines, one after another.
use Rattle.std.proofs.Common.{◌≡◌, ℕ, ◌+◌, ◌<◌, List, [], ◌++◌, length, drop, get_or, Some, None, Ok, Err, Option, Result, refl, sym, ap, ap₂, ◌∙◌, append-nil}
use Rattle.std.proofs.lemmas.List.{append_assoc, drop_more}
use Rattle.atoms.specs.declared.zone.Zone.{Zone}
use Rattle.listcalls.specs.declared.call.Call.{Call}
use Rattle.collector.specs.Runs.{outcome, outcomes, under_floor}
use Rattle.collector.specs.States.{State}
use Rattle.plan.specs.declared.line.Line.{Line}
use Rattle.replies.specs.declared.fault.LineFault.{LineFault}
use Rattle.replies.specs.declared.reply.Reply.{Reply}
use Rattle.replies.specs.Replies.{reply_of, line_of, text_of_replies}
use Rattle.replies.specs.Requests.{call_of, calls_with, calls_of_lines, replies_on, replies_of_lines}
use Rattle.replies.specs.Serving.{event_of, listed, served, replies_from}

-- The text of one reply and of those after it.
one-text : (r : Reply) (rest : List ℕ) → line_of r ++ rest ≡ (line_of r ++ []) ++ rest
one-text r rest = ap (λ (xs : List ℕ). xs ++ rest) (sym (append-nil (line_of r)))

step-by : (e : Result (Option (Call Zone)) LineFault) (floor : ℕ) (s : State Zone) (ls : List Line)
    → text_of_replies (replies_on e (replies_of_lines ls) (outcomes s (under_floor floor s (calls_with e (calls_of_lines ls)))))
    ≡ text_of_replies (listed (served e floor s).1) ++ text_of_replies (replies_from floor (served e floor s).0 ls)
step-by (Ok None) floor s ls = refl
step-by (Ok (Some c)) floor s ls = one-text (reply_of (outcome s (event_of floor s c))) _
step-by (Err fault) floor s ls = one-text (Reply.Refused fault) _

-- One line is served, and its reply is written.
pub serve-more : (floor floor' : ℕ) (s s' : State Zone) (ls : List Line) (i : ℕ) (here : Line) (r : Option Reply) (before text all : List ℕ) → i < length ls
    → s' ≡ (served (call_of (get_or ls i here)) floor s).0 → r ≡ (served (call_of (get_or ls i here)) floor s).1 → floor' ≡ floor
    → text ≡ before ++ text_of_replies (listed r)
    → before ++ text_of_replies (replies_from floor s (drop i ls)) ≡ all
    → text ++ text_of_replies (replies_from floor' s' (drop (i + 1) ls)) ≡ all
serve-more floor floor' s s' ls i here r before text all more after reply same written rest =
    let l : Line = get_or ls i here in
    let later : List ℕ = text_of_replies (replies_from floor (served (call_of l) floor s).0 (drop (i + 1) ls)) in
    let now : List ℕ = text_of_replies (listed (served (call_of l) floor s).1) in
    let step : text_of_replies (replies_from floor s (drop i ls)) ≡ now ++ later =
    ap (λ (xs : List Line). text_of_replies (replies_from floor s xs)) (drop_more ls i here more) ∙ step-by (call_of l) floor s (drop (i + 1) ls) in
    ap₂ (λ (f : ℕ) (u : State Zone). text ++ text_of_replies (replies_from f u (drop (i + 1) ls))) same after
    ∙ ap (λ (xs : List ℕ). xs ++ later) (written ∙ ap (λ (q : Option Reply). before ++ text_of_replies (listed q)) reply)
    ∙ append_assoc before now later
    ∙ ap (λ (xs : List ℕ). before ++ xs) (sym step)
    ∙ rest
