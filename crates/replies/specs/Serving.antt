-- What a store under the floor rule does with the lines of a plan.
use Rattle.std.specs.Prelude.{ℕ, List, [], ◌∷◌, Some, None, Ok, Err, Option, Result, nat_le}
use Rattle.atoms.specs.declared.zone.Zone.{Zone}
use Rattle.atoms.specs.declared.zones.Zones.{Zones}
use Rattle.atoms.specs.Zones.{zone_code, zone_of}
use Rattle.bank.specs.declared.word.Cell.{Cell}
use Rattle.listcalls.specs.declared.call.Call.{Call}
use Rattle.collector.specs.Runs.{Event, next, outcome, outcomes, under_floor}
use Rattle.collector.specs.States.{State}
use Rattle.pacing.specs.Floors.{floor_of}
use Rattle.pacing.specs.declared.floor.FloorRule.{FloorRule}
use Rattle.plan.specs.declared.line.Line.{Line}
use Rattle.replies.specs.declared.fault.LineFault.{LineFault}
use Rattle.replies.specs.declared.reply.Reply.{Reply}
use Rattle.replies.specs.Replies.{reply_of}
use Rattle.replies.specs.Requests.{calls_of_lines, replies_of_lines}
use Rattle.store.specs.Meaning.{meant}
use Rattle.store.specs.declared.store.Store.{Store}

-- What such a store holds, and the floor of its rule.
abbrev pub zone_state : {B : Type 0} → (B → ℕ) → (B → List Cell) → Store B Zones FloorRule → State Zone
zone_state limit cells s = meant limit cells (λ k. zone_code) (λ k. zone_of) floor_of s

abbrev pub floor_in : {B : Type 0} → Store B Zones FloorRule → ℕ
floor_in s = floor_of s.rule

abbrev pub event_of : ℕ → State Zone → Call Zone → Event Zone
event_of floor s c = record { call = c; says = nat_le s.pool.count floor }

-- The state after a line, by the call that it asks for, and the reply to it; none where it asks for none.
abbrev pub served : Result (Option (Call Zone)) LineFault → ℕ → State Zone → State Zone × Option Reply
served (Ok None) floor s = (s, None)
served (Ok (Some c)) floor s = (next s (event_of floor s c), Some (reply_of (outcome s (event_of floor s c))))
served (Err fault) floor s = (s, Some (Reply.Refused fault))

-- A reply where there is one.
abbrev pub listed : Option Reply → List Reply
listed None = []
listed (Some r) = r ∷ []

-- The replies to some lines, from this state on.
abbrev pub replies_from : ℕ → State Zone → List Line → List Reply
replies_from floor s ls = replies_of_lines ls (outcomes s (under_floor floor s (calls_of_lines ls)))
