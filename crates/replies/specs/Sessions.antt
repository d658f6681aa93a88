-- What is answered to a plan: the replies to its lines, from a run of a store of its own, and the text that is printed.
use Rattle.std.specs.Prelude.{◌≡◌, ℕ, min, List, [], ◌∷◌, ◌++◌, Some, None, Ok, Err, codes, Option, Result}
use Rattle.atoms.specs.declared.zone.Zone.{Zone}
use Rattle.atoms.specs.Zones.{zone_code, zone_of}
use Rattle.collector.specs.Laws.{LawfulRun}
use Rattle.collector.specs.Runs.{Event, under_floor}
use Rattle.collector.specs.States.{Fixed, new}
use Rattle.memory.specs.Packing.{packed_top}
use Rattle.pacing.specs.declared.fault.EffortFault.{EffortFault}
use Rattle.plan.specs.declared.fault.PlanFault.{PlanFault}
use Rattle.plan.specs.declared.line.Line.{Line}
use Rattle.plan.specs.Readings.{Reads}
use Rattle.plan.specs.Refusals.{fault_text}
use Rattle.replies.specs.declared.fault.LineFault.{LineFault}
use Rattle.replies.specs.declared.opening.Opening.{Opening}
use Rattle.replies.specs.declared.reply.Reply.{Reply}
use Rattle.replies.specs.Openings.{opening_of}
use Rattle.replies.specs.Replies.{text_of_replies}
use Rattle.replies.specs.Requests.{calls_of_lines}
use Rattle.replies.specs.Serving.{replies_from}

-- What is fixed in a plan's store over a bank of this limit: zones for atoms, the floor rule, and the effort.
abbrev pub plan_fixed : ℕ → Opening → Fixed Zone
plan_fixed limit opening = record {
  atoms = record { limit = limit; coded = zone_code; valued = zone_of };
  floor = opening.floor;
  k1 = opening.effort.k1;
  k2 = opening.effort.k2;
}

-- The lines after the first.
abbrev pub later : List Line → List Line
later [] = []
later (l ∷ ls) = ls

-- The calls that some lines make of a new store over a bank of this limit and size, each with the floor rule's answer.
abbrev pub events_of : ℕ → ℕ → Opening → List Line → List (Event Zone)
events_of limit size opening ls = under_floor opening.floor (new (plan_fixed limit opening) size) (calls_of_lines ls)

-- The replies: `ok` to the store line, and then to each later line by the outcome of its call in that run, or by the line's own refusal.
abbrev pub replies_in : ℕ → ℕ → Opening → List Line → List Reply
replies_in limit size opening ls = Reply.Done ∷ replies_from opening.floor (new (plan_fixed limit opening) size) ls

-- They are these, and the laws of runs hold of the run.
pub record Served (limit size : ℕ) (opening : Opening) (ls : List Line) (rs : List Reply) : Type 0 where
  pub replied : rs ≡ replies_in limit size opening ls
  pub lawful : LawfulRun (plan_fixed limit opening) size (events_of limit size opening ls)

-- The replies to a plan's lines, by how it opens: a store of that many packed cells, 4,096 at most.
abbrev pub RepliedBy : Result (Option Opening) EffortFault → List Line → List Reply → Type 0
RepliedBy (Ok None) ls rs = rs ≡ []
RepliedBy (Ok (Some opening)) ls rs = Served packed_top (min opening.cells 4096) opening ls rs
RepliedBy (Err fault) ls rs = rs ≡ Reply.Refused (LineFault.Effort fault) ∷ []

abbrev pub Replied : List Line → List Reply → Type 0
Replied ls rs = RepliedBy (opening_of ls) (later ls) rs

-- A text, with the replies to a plan's lines added to what was there before.
pub record Added (opening : Result (Option Opening) EffortFault) (ls : List Line) (before text : List ℕ) : Type 0 where
  pub replies : List Reply
  pub replied : RepliedBy opening ls replies
  pub printed : text ≡ before ++ text_of_replies replies

-- A fault's line is printed unless the opening was refused, which ends the plan.
abbrev pub fault_line : PlanFault → List ℕ
fault_line f = fault_text f ++ codes "\n"

abbrev pub text_of_fault : Result (Option Opening) EffortFault → Option PlanFault → List ℕ
text_of_fault (Ok opening) None = []
text_of_fault (Ok opening) (Some f) = fault_line f
text_of_fault (Err fault) r = []

-- The text that is printed for a plan.
pub record Answered (bytes text : List ℕ) : Type 0 where
  pub lines : List Line
  pub fault : Option PlanFault
  pub reads : Reads bytes lines fault
  pub replies : List Reply
  pub replied : Replied lines replies
  pub printed : text ≡ text_of_replies replies ++ text_of_fault (opening_of lines) fault
