-- What a store holds, and a new store.
use Rattle.std.specs.Prelude.{ℕ, zero, suc, true, false, List, [], ◌∷◌, length, replicate, Option, slice_index_or}
use Rattle.bank.specs.declared.word.Word.{Word}
use Rattle.bank.specs.declared.word.Cell.{Cell}
use Rattle.listcalls.specs.declared.phase.Phase.{Phase}

-- The cells, and the numbers of those that wait to be scanned, the latest first.
pub record Heap : Type 0 where
  pub cells : List Cell
  pub stack : List ℕ

-- The free list, by its first word and its length, and the place where the sweep stands.
pub record Pool : Type 0 where
  pub head : Word
  pub count : ℕ
  pub sweeper : ℕ

-- Atoms as a store sees them: the bank's limit, the code of a value, the value of a code.
pub record Atoms (V : Type 0) : Type 0 where
  pub limit : ℕ
  pub coded : V → ℕ
  pub valued : ℕ → Option V

-- What no call changes: the atoms, the start rule's floor, and the effort.
pub record Fixed (V : Type 0) : Type 0 where
  pub atoms : Atoms V
  pub floor : ℕ
  pub k1 : ℕ
  pub k2 : ℕ

pub record State (V : Type 0) : Type 0 where
  pub fixed : Fixed V
  pub heap : Heap
  pub pool : Pool
  pub registers : List Word
  pub phase : Phase

abbrev pub size : {V : Type 0} → State V → ℕ
size s = length s.heap.cells

-- The words from which cells are reached.
abbrev pub roots : {V : Type 0} → State V → List Word
roots s = s.registers

-- What a number past the bank reads as. It counts as marked, so that no offer of it does anything.
abbrev pub dead : Cell
dead = record { car = Word.Nil; cdr = Word.Nil; mark = true }

abbrev pub at : List Cell → ℕ → Cell
at cells n = slice_index_or cells n dead

-- The word that names the first of k cells from n on.
abbrev pub first_word : ℕ → ℕ → Word
first_word n zero = Word.Nil
first_word n (suc k) = Word.Cell n

-- k free cells from n on, linked in order through their cars.
abbrev pub linked : ℕ → ℕ → List Cell
linked n zero = []
linked n (suc k) = record { car = first_word (suc n) k; cdr = Word.Reserved; mark = false } ∷ linked (suc n) k

-- A new store over a bank of the given size.
abbrev pub new : {V : Type 0} → Fixed V → ℕ → State V
new fixed size = record {
  fixed = fixed;
  heap = record { cells = linked 0 size; stack = [] };
  pool = record { head = first_word 0 size; count = size; sweeper = size };
  registers = replicate 16 Word.Nil;
  phase = Phase.Idle;
}
