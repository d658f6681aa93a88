-- What a plan's lines ask for.
use Rattle.std.specs.Prelude.{ℕ, List, [], ◌∷◌, Some, None, Ok, Err, Option, Result}
use Rattle.atoms.specs.declared.fault.ZoneFault.{ZoneFault}
use Rattle.atoms.specs.declared.zone.Zone.{Zone}
use Rattle.atoms.specs.Zones.{zone_at}
use Rattle.listcalls.specs.declared.call.Call.{Call}
use Rattle.collector.specs.Outcomes.{Outcome}
use Rattle.plan.specs.declared.line.Line.{Line}
use Rattle.replies.specs.declared.fault.LineFault.{LineFault}
use Rattle.replies.specs.declared.reply.Reply.{Reply}
use Rattle.replies.specs.Replies.{reply_of}

-- A load of a pair that is no zone is refused before the store is asked.
abbrev pub load_of : ℕ → ℕ → ℕ → Option Zone → Result (Option (Call Zone)) LineFault
load_of register offset length None = Err (LineFault.Zone (ZoneFault.NotAZone offset length))
load_of register offset length (Some z) = Ok (Some (Call.Load register z))

abbrev pub call_of : Line → Result (Option (Call Zone)) LineFault
call_of (Line.Store cells k1 k2 floor) = Ok None
call_of (Line.Load register offset length) = load_of register offset length (zone_at offset length)
call_of (Line.Clear i) = Ok (Some (Call.Clear i))
call_of (Line.Copy i a) = Ok (Some (Call.Copy i a))
call_of (Line.Cons i a b) = Ok (Some (Call.Cons i a b))
call_of (Line.Car i a) = Ok (Some (Call.Car i a))
call_of (Line.Cdr i a) = Ok (Some (Call.Cdr i a))
call_of (Line.Rplaca a b) = Ok (Some (Call.Rplaca a b))
call_of (Line.Rplacd a b) = Ok (Some (Call.Rplacd a b))
call_of (Line.Look i) = Ok (Some (Call.Look i))
call_of (Line.Same i j) = Ok (Some (Call.Same i j))

-- The calls that some lines ask for, in order.
abbrev pub calls_with : Result (Option (Call Zone)) LineFault → List (Call Zone) → List (Call Zone)
calls_with (Ok None) calls = calls
calls_with (Ok (Some c)) calls = c ∷ calls
calls_with (Err fault) calls = calls

abbrev pub calls_of_lines : List Line → List (Call Zone)
calls_of_lines [] = []
calls_of_lines (l ∷ ls) = calls_with (call_of l) (calls_of_lines ls)

-- The replies to some lines, with the outcomes of their calls in order: a line that comes to no call gets its own refusal.
abbrev pub replies_on : Result (Option (Call Zone)) LineFault → (List (Outcome Zone) → List Reply) → List (Outcome Zone) → List Reply
replies_on (Ok None) rest os = rest os
replies_on (Ok (Some c)) rest [] = rest []
replies_on (Ok (Some c)) rest (o ∷ os) = reply_of o ∷ rest os
replies_on (Err fault) rest os = Reply.Refused fault ∷ rest os

abbrev pub replies_of_lines : List Line → List (Outcome Zone) → List Reply
replies_of_lines [] os = []
replies_of_lines (l ∷ ls) os = replies_on (call_of l) (replies_of_lines ls) os
