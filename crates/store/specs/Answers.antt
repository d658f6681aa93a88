-- What a method returns, as the outcome of its call.
use Rattle.std.specs.Prelude.{Ok, Err, Result}
use Rattle.listcalls.specs.declared.call.Answer.{Answer}
use Rattle.listcalls.specs.declared.fault.StoreFault.{StoreFault}
use Rattle.collector.specs.Outcomes.{Outcome}

abbrev pub outcome_by : {A V : Type 0} → (A → Answer V) → Result A StoreFault → Outcome V
outcome_by f (Ok x) = Ok (f x)
outcome_by f (Err fault) = Err fault

-- A method with nothing to answer.
abbrev pub outcome_of : {V : Type 0} → Result (Unit {0}) StoreFault → Outcome V
outcome_of r = outcome_by (λ _. Answer.Done) r
