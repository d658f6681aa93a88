-- What a question for two registers is answered.
use Rattle.std.specs.Prelude.{ℕ, List, [], ◌∷◌, Some, None, Ok, Err, Option, Result}
use Rattle.bank.specs.declared.word.Word.{Word}
use Rattle.listcalls.specs.declared.fault.StoreFault.{StoreFault}
use Rattle.collector.specs.Outcomes.{absent, register}

abbrev pub unless_absent : {A : Type 0} → Option ℕ → A → Result A StoreFault
unless_absent None x = Ok x
unless_absent (Some r) x = Err (StoreFault.NoRegister r)

abbrev pub pair_asked : List Word → ℕ → ℕ → Result (Word × Word) StoreFault
pair_asked registers r s = unless_absent (absent (r ∷ s ∷ [])) (register registers r, register registers s)
