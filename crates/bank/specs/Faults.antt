-- A refusal by its number and the values that it returns.
use Rattle.std.specs.Prelude.{ℕ, List, [], ◌∷◌, ◌++◌, codes, decimal}
use Rattle.bank.specs.declared.fault.BankFault.{BankFault}

abbrev pub told : BankFault → ℕ × List ℕ
told (BankFault.NoSuchCell n) = (1, n ∷ [])
told (BankFault.WordTooWide n) = (2, n ∷ [])

-- How it is written out.
abbrev pub text_of_fault : BankFault → List ℕ
text_of_fault (BankFault.NoSuchCell n) = codes "there is no cell " ++ decimal n
text_of_fault (BankFault.WordTooWide n) = codes "the word's number " ++ (decimal n ++ codes " is above the limit")
