-- What a call comes to, in a store as in the endless heap, as far as registers and words decide it.
use Rattle.std.specs.Prelude.{ℕ, Bool, true, false, if◌then◌else◌, List, [], ◌∷◌, Some, None, Ok, Err, Option, Result, ◌==◌, nat_lt, slice_index_or}
use Rattle.bank.specs.declared.word.Word.{Word}
use Rattle.listcalls.specs.declared.call.Call.{Call}
use Rattle.listcalls.specs.declared.call.Answer.{Answer}
use Rattle.listcalls.specs.declared.call.Seen.{Seen}
use Rattle.listcalls.specs.declared.fault.StoreFault.{StoreFault}
use Rattle.collector.specs.States.{Atoms}

abbrev pub Outcome : Type 0 → Type 0
Outcome V = Result (Answer V) StoreFault

-- What a call leaves, and its outcome.
pub record After (S V : Type 0) : Type 0 where
  pub state : S
  pub outcome : Outcome V

-- A refusal, with the state that it leaves.
abbrev pub refuse : {S V : Type 0} → S → StoreFault → After S V
refuse s fault = record { state = s; outcome = Err fault }

abbrev pub done : {S V : Type 0} → S → After S V
done s = record { state = s; outcome = Ok Answer.Done }

abbrev pub answer : {S V : Type 0} → S → Answer V → After S V
answer s a = record { state = s; outcome = Ok a }

-- The registers that a call names, in the order in which they are checked.
abbrev pub registers_of : {V : Type 0} → Call V → List ℕ
registers_of (Call.Load i v) = i ∷ []
registers_of (Call.Clear i) = i ∷ []
registers_of (Call.Copy i a) = i ∷ a ∷ []
registers_of (Call.Cons i a b) = i ∷ a ∷ b ∷ []
registers_of (Call.Car i a) = i ∷ a ∷ []
registers_of (Call.Cdr i a) = i ∷ a ∷ []
registers_of (Call.Rplaca a b) = a ∷ b ∷ []
registers_of (Call.Rplacd a b) = a ∷ b ∷ []
registers_of (Call.Look i) = i ∷ []
registers_of (Call.Same i j) = i ∷ j ∷ []

-- The first of these numbers that is no register's: there are sixteen.
abbrev pub absent : List ℕ → Option ℕ
absent [] = None
absent (r ∷ rs) = if nat_lt r 16 then absent rs else Some r

abbrev pub register : List Word → ℕ → Word
register registers r = slice_index_or registers r Word.Nil

-- What a question for register r is answered.
abbrev pub register_asked : List Word → ℕ → Result Word StoreFault
register_asked registers r = if nat_lt r 16 then Ok (register registers r) else Err (StoreFault.NoRegister r)

-- What a look at a word shows. A code with no value, and reserved, stand in no register that calls lead to.
abbrev pub value_seen : {V : Type 0} → Option V → Seen V
value_seen None = Seen.Nil
value_seen (Some v) = Seen.Atom v

abbrev pub seen : {V : Type 0} → Atoms V → Word → Seen V
seen atoms Word.Nil = Seen.Nil
seen atoms (Word.Cell n) = Seen.Cell
seen atoms (Word.Atom c) = value_seen (atoms.valued c)
seen atoms Word.Reserved = Seen.Nil

-- Two nils, one cell, or equal codes.
abbrev pub same_word : Word → Word → Bool
same_word Word.Nil Word.Nil = true
same_word Word.Nil (Word.Cell n) = false
same_word Word.Nil (Word.Atom c) = false
same_word Word.Nil Word.Reserved = false
same_word (Word.Cell m) Word.Nil = false
same_word (Word.Cell m) (Word.Cell n) = m == n
same_word (Word.Cell m) (Word.Atom c) = false
same_word (Word.Cell m) Word.Reserved = false
same_word (Word.Atom b) Word.Nil = false
same_word (Word.Atom b) (Word.Cell n) = false
same_word (Word.Atom b) (Word.Atom c) = b == c
same_word (Word.Atom b) Word.Reserved = false
same_word Word.Reserved w = false
