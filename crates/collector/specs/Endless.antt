-- The endless heap: registers and an ever growing list of cells. It has no free list, no marks and no turns.
use Rattle.std.specs.Prelude.{ℕ, Bool, true, false, List, [], ◌∷◌, ◌++◌, length, replicate, Some, None, Option, nat_le, slice_index_or, slice_set}
use Rattle.bank.specs.declared.fault.BankFault.{BankFault}
use Rattle.bank.specs.declared.word.Word.{Word}
use Rattle.listcalls.specs.declared.call.Call.{Call}
use Rattle.listcalls.specs.declared.call.Answer.{Answer}
use Rattle.listcalls.specs.declared.fault.StoreFault.{StoreFault}
use Rattle.collector.specs.States.{Atoms}
use Rattle.collector.specs.Outcomes.{After, refuse, done, answer, registers_of, absent, register, seen, same_word}

-- A cell: its two words.
pub record Pair : Type 0 where
  pub first : Word
  pub second : Word

pub record Endless : Type 0 where
  pub registers : List Word
  pub pairs : List Pair

abbrev pub start : Endless
start = record { registers = replicate 16 Word.Nil; pairs = [] }

abbrev pub pair_at : Endless → ℕ → Pair
pair_at e x = slice_index_or e.pairs x (record { first = Word.Nil; second = Word.Nil })

abbrev pub named : ℕ → Word → Endless → Endless
named i w e = record { registers = slice_set e.registers i w; pairs = e.pairs }

abbrev pub load_if : {V : Type 0} → Bool → ℕ → ℕ → Endless → After Endless V
load_if true i code e = done (named i (Word.Atom code) e)
load_if false i code e = refuse e (StoreFault.Bank (BankFault.WordTooWide code))

-- A cons never lacks a cell. Its work is not compared, and is 0 here.
abbrev pub appended : ℕ → Word → Word → Endless → Endless
appended i a b e = named i (Word.Cell (length e.pairs)) (record { registers = e.registers; pairs = e.pairs ++ record { first = a; second = b } ∷ [] })

abbrev pub read : {V : Type 0} → (Pair → Word) → Word → ℕ → ℕ → Endless → After Endless V
read field Word.Nil i a e = refuse e (StoreFault.NotACell a)
read field (Word.Cell x) i a e = done (named i (field (pair_at e x)) e)
read field (Word.Atom c) i a e = refuse e (StoreFault.NotACell a)
read field Word.Reserved i a e = refuse e (StoreFault.NotACell a)

abbrev pub replace : {V : Type 0} → (Pair → Pair) → Word → ℕ → Endless → After Endless V
replace put Word.Nil a e = refuse e (StoreFault.NotACell a)
replace put (Word.Cell x) a e = done (record { registers = e.registers; pairs = slice_set e.pairs x (put (pair_at e x)) })
replace put (Word.Atom c) a e = refuse e (StoreFault.NotACell a)
replace put Word.Reserved a e = refuse e (StoreFault.NotACell a)

abbrev pub first_word : Pair → Word
first_word p = p.first

abbrev pub second_word : Pair → Word
second_word p = p.second

abbrev pub with_first : Word → Pair → Pair
with_first w p = record { first = w; second = p.second }

abbrev pub with_second : Word → Pair → Pair
with_second w p = record { first = p.first; second = w }

abbrev pub perform : {V : Type 0} → Atoms V → Endless → Call V → After Endless V
perform atoms e (Call.Load i v) = load_if (nat_le (atoms.coded v) atoms.limit) i (atoms.coded v) e
perform atoms e (Call.Clear i) = done (named i Word.Nil e)
perform atoms e (Call.Copy i a) = done (named i (register e.registers a) e)
perform atoms e (Call.Cons i a b) = answer (appended i (register e.registers a) (register e.registers b) e) (Answer.Worked 0)
perform atoms e (Call.Car i a) = read first_word (register e.registers a) i a e
perform atoms e (Call.Cdr i a) = read second_word (register e.registers a) i a e
perform atoms e (Call.Rplaca a b) = replace (with_first (register e.registers b)) (register e.registers a) a e
perform atoms e (Call.Rplacd a b) = replace (with_second (register e.registers b)) (register e.registers a) a e
perform atoms e (Call.Look i) = answer e (Answer.Saw (seen atoms (register e.registers i)))
perform atoms e (Call.Same i j) = answer e (Answer.Same (same_word (register e.registers i) (register e.registers j)))

abbrev pub checked : {V : Type 0} → Option ℕ → Atoms V → Endless → Call V → After Endless V
checked (Some r) atoms e c = refuse e (StoreFault.NoRegister r)
checked None atoms e c = perform atoms e c

-- A call fed to the endless heap.
abbrev pub feed : {V : Type 0} → Atoms V → Endless → Call V → After Endless V
feed atoms e c = checked (absent (registers_of c)) atoms e c
