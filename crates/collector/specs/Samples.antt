-- A short run, worked out by the definitions.
use Rattle.std.specs.Prelude.{◌≡◌, ℕ, true, List, [], ◌∷◌, Some, Ok, Err}
use Rattle.listcalls.specs.declared.call.Answer.{Answer}
use Rattle.listcalls.specs.declared.call.Call.{Call}
use Rattle.listcalls.specs.declared.call.Seen.{Seen}
use Rattle.listcalls.specs.declared.fault.StoreFault.{StoreFault}
use Rattle.collector.specs.Runs.{outcomes, under_floor}
use Rattle.collector.specs.States.{State, new}

-- A store of three cells over atoms that are their own codes: one scan or sweep a turn, floor 1.
abbrev pub three_cells : State ℕ
three_cells =
    new (record { atoms = record { limit = 268435455; coded = λ v. v; valued = λ c. Some c }; floor = 1; k1 = 1; k2 = 1 }) 3

-- The second cons drops the only name of the first cell, the third begins a collection, the fourth lacks a cell while it marks, the fifth gets the swept one.
abbrev pub some_calls : List (Call ℕ)
some_calls =
    Call.Load 1 7 ∷ Call.Cons 0 1 2 ∷ Call.Cons 0 1 2 ∷ Call.Cons 3 0 0 ∷ Call.Cons 4 0 0 ∷ Call.Cons 4 0 0 ∷ Call.Look 1 ∷ Call.Car 5 4 ∷ Call.Same 5 0 ∷ Call.Car 5 1 ∷ Call.Clear 16 ∷ []

abbrev pub SampleRun : Type 0
SampleRun =
    outcomes three_cells (under_floor 1 three_cells some_calls)
    ≡ Ok Answer.Done ∷ Ok (Answer.Worked 0) ∷ Ok (Answer.Worked 0) ∷ Ok (Answer.Worked 0) ∷ Err (StoreFault.NoFreeCell 1) ∷ Ok (Answer.Worked 1)
    ∷ Ok (Answer.Saw (Seen.Atom 7)) ∷ Ok Answer.Done ∷ Ok (Answer.Same true) ∷ Err (StoreFault.NotACell 1) ∷ Err (StoreFault.NoRegister 16) ∷ []
