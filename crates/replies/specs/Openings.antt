-- How a plan opens.
use Rattle.std.specs.Prelude.{ℕ, List, [], ◌∷◌, Some, None, Ok, Err, Option, Result}
use Rattle.pacing.specs.declared.effort.Effort.{Effort}
use Rattle.pacing.specs.declared.fault.EffortFault.{EffortFault}
use Rattle.pacing.specs.Efforts.{effort_at}
use Rattle.plan.specs.declared.line.Line.{Line}
use Rattle.replies.specs.declared.opening.Opening.{Opening}

abbrev pub opened : Option Effort → ℕ → ℕ → ℕ → ℕ → Result (Option Opening) EffortFault
opened None cells k1 k2 floor = Err (EffortFault.OutOfRange k1 k2)
opened (Some e) cells k1 k2 floor = Ok (Some (record { cells = cells; effort = e; floor = floor }))

abbrev pub opening_by : Line → Result (Option Opening) EffortFault
opening_by (Line.Store cells k1 k2 floor) = opened (effort_at k1 k2) cells k1 k2 floor
opening_by (Line.Load register offset length) = Ok None
opening_by (Line.Clear i) = Ok None
opening_by (Line.Copy i a) = Ok None
opening_by (Line.Cons i a b) = Ok None
opening_by (Line.Car i a) = Ok None
opening_by (Line.Cdr i a) = Ok None
opening_by (Line.Rplaca a b) = Ok None
opening_by (Line.Rplacd a b) = Ok None
opening_by (Line.Look i) = Ok None
opening_by (Line.Same i j) = Ok None

abbrev pub opening_of : List Line → Result (Option Opening) EffortFault
opening_of [] = Ok None
opening_of (l ∷ ls) = opening_by l
