-- A store's refusals, by number and by the values that each returns.
use Rattle.std.specs.Prelude.{ℕ, List, [], ◌∷◌, ◌++◌, codes, decimal}
use Rattle.bank.specs.Faults.{told as bank_told}
use Rattle.bank.specs.declared.fault.BankFault.{BankFault}
use Rattle.listcalls.specs.declared.fault.StoreFault.{StoreFault}

abbrev pub told : StoreFault → ℕ × List ℕ
told (StoreFault.Bank fault) = bank_told fault
told (StoreFault.NoRegister r) = (5, r ∷ [])
told (StoreFault.NotACell r) = (6, r ∷ [])
told (StoreFault.NoFreeCell work) = (7, work ∷ [])

-- How it is written, as `refused 7 4`.
abbrev pub spoken : ℕ → ℕ → List ℕ
spoken number value = codes "refused " ++ (decimal number ++ (codes " " ++ decimal value))

abbrev pub text_of_fault : StoreFault → List ℕ
text_of_fault (StoreFault.Bank (BankFault.NoSuchCell n)) = spoken 1 n
text_of_fault (StoreFault.Bank (BankFault.WordTooWide n)) = spoken 2 n
text_of_fault (StoreFault.NoRegister r) = spoken 5 r
text_of_fault (StoreFault.NotACell r) = spoken 6 r
text_of_fault (StoreFault.NoFreeCell work) = spoken 7 work
