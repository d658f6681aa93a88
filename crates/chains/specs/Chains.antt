-- A chain of atoms: cells whose cars hold the atoms, each cdr naming the next, nil in the last.
use Rattle.std.specs.Prelude.{ℕ, zero, suc, ◌+◌, false, if◌then◌else◌, List, [], ◌∷◌, ◌++◌, length, take, drop, Ok, Err, Result, nat_lt, slice_index_or}
use Rattle.bank.specs.declared.word.Word.{Word}
use Rattle.bank.specs.declared.word.Cell.{Cell}
use Rattle.bank.specs.declared.fault.BankFault.{BankFault}
use Rattle.bank.specs.Words.{blank}
use Rattle.bank.specs.Banks.{taken}

-- The cdr of cell n, when these atoms follow in the next cells.
abbrev pub link : ℕ → List ℕ → Word
link n [] = Word.Nil
link n (a ∷ xs) = Word.Cell (suc n)

-- The same, when the cells that follow end before cell next.
abbrev pub link_before : ℕ → ℕ → Word
link_before next n = if nat_lt (n + 1) next then Word.Cell (n + 1) else Word.Nil

-- A chain in the cells from n on.
abbrev pub chain : ℕ → List ℕ → List Cell
chain n [] = []
chain n (a ∷ xs) = record { car = Word.Atom a; cdr = link n xs; mark = false } ∷ chain (suc n) xs

-- Whether a bank of this limit and size takes the chain: the first refusal on the way, or the number of the next cell.
abbrev pub chain_taken : ℕ → ℕ → ℕ → List ℕ → Result ℕ BankFault
chain_taken limit size n [] = Ok n
chain_taken limit size n (a ∷ xs) = if nat_lt n size then taken limit (Word.Atom a) (chain_taken limit size (suc n) xs) else Err (BankFault.NoSuchCell n)

-- The cells with these in the place of those from n on.
abbrev pub placed : List Cell → ℕ → List Cell → List Cell
placed cells n new = take n cells ++ (new ++ drop (n + length new) cells)

abbrev pub atom_in : Word → List ℕ
atom_in Word.Nil = []
atom_in (Word.Cell n) = []
atom_in (Word.Atom c) = c ∷ []
atom_in Word.Reserved = []

-- The atoms of the chain that begins at a word, in at most so many cells.
abbrev pub atoms_from : ℕ → List Cell → Word → List ℕ
atoms_from zero cells w = []
atoms_from (suc k) cells Word.Nil = []
atoms_from (suc k) cells (Word.Cell n) = if nat_lt n (length cells) then atom_in (slice_index_or cells n blank).car ++ atoms_from k cells (slice_index_or cells n blank).cdr else []
atoms_from (suc k) cells (Word.Atom c) = []
atoms_from (suc k) cells Word.Reserved = []
