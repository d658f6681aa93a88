-- The ten calls of a store.
use Rattle.std.specs.Prelude.{ℕ, ◌-◌, Bool, true, false, if◌then◌else◌, List, Some, None, Ok, Err, Option, Result, ◌==◌, nat_le, slice_set}
use Rattle.bank.specs.Words.{with_car, with_cdr, with_mark}
use Rattle.bank.specs.Banks.{fits, on_cell, taken, asked, changed, word_put, word_taken}
use Rattle.bank.specs.declared.fault.BankFault.{BankFault}
use Rattle.bank.specs.declared.word.Word.{Word}
use Rattle.bank.specs.declared.word.Cell.{Cell}
use Rattle.listcalls.specs.declared.call.Call.{Call}
use Rattle.listcalls.specs.declared.call.Answer.{Answer}
use Rattle.listcalls.specs.declared.fault.StoreFault.{StoreFault}
use Rattle.listcalls.specs.declared.phase.Phase.{Phase}
use Rattle.collector.specs.States.{Heap, Pool, State, at}
use Rattle.collector.specs.Turns.{offer, turn, work}
use Rattle.collector.specs.Outcomes.{After, refuse, done, answer, registers_of, absent, register, seen, same_word}

-- The state with another part.
abbrev pub with_register : {V : Type 0} → ℕ → Word → State V → State V
with_register i w s = record {
  fixed = s.fixed;
  heap = s.heap;
  pool = s.pool;
  registers = slice_set s.registers i w;
  phase = s.phase;
}

abbrev pub with_heap : {V : Type 0} → Heap → State V → State V
with_heap h s = record { fixed = s.fixed; heap = h; pool = s.pool; registers = s.registers; phase = s.phase }

abbrev pub with_pool : {V : Type 0} → Pool → State V → State V
with_pool p s = record { fixed = s.fixed; heap = s.heap; pool = p; registers = s.registers; phase = s.phase }

abbrev pub with_cells : {V : Type 0} → List Cell → State V → State V
with_cells cells s = with_heap (record { cells = cells; stack = s.heap.stack }) s

-- A bank's refusal is passed up with its cause and place. No list of calls from a new store meets one but that of load.
abbrev pub passed : {S V : Type 0} → S → Result (Unit {0}) BankFault → After S V
passed s (Ok u) = done s
passed s (Err fault) = refuse s (StoreFault.Bank fault)

-- load: an atom whose code is above the bank's limit is refused.
abbrev pub load_if : {V : Type 0} → Bool → ℕ → ℕ → State V → After (State V) V
load_if true i code s = done (with_register i (Word.Atom code) s)
load_if false i code s = refuse s (StoreFault.Bank (BankFault.WordTooWide code))

abbrev pub load : {V : Type 0} → ℕ → V → State V → After (State V) V
load i v s = load_if (nat_le (s.fixed.atoms.coded v) s.fixed.atoms.limit) i (s.fixed.atoms.coded v) s

-- Two words and a mark put into cell h, one after the other, as far as the bank takes them.
abbrev pub filling : ℕ → List Cell → ℕ → Word → Word → Result (Unit {0}) BankFault
filling limit cells h a b = on_cell cells h (taken limit a (taken limit b (Ok tt)))

abbrev pub filled : ℕ → List Cell → ℕ → Word → Word → Bool → List Cell
filled limit cells h a b m =
    if fits limit a then (if fits limit b then changed (with_mark m) (changed (with_cdr b) (changed (with_car a) cells h) h) h else changed (with_car a) cells h) else cells

-- The head h of the free list leaves it for register i, with the words a and b, marked exactly from the sweeper on.
abbrev pub unlinked : {V : Type 0} → ℕ → State V → Pool
unlinked h s = record { head = (at s.heap.cells h).car; count = s.pool.count - 1; sweeper = s.pool.sweeper }

abbrev pub with_cell : {V : Type 0} → ℕ → Word → Word → State V → State V
with_cell h a b s = with_cells (filled s.fixed.atoms.limit s.heap.cells h a b (nat_le s.pool.sweeper h)) s

abbrev pub take_if : {V : Type 0} → Result (Unit {0}) BankFault → ℕ → ℕ → ℕ → Word → Word → State V → After (State V) V
take_if (Ok u) work i h a b s = answer (with_register i (Word.Cell h) (with_pool (unlinked h s) (with_cell h a b s))) (Answer.Worked work)
take_if (Err fault) work i h a b s = refuse (with_cell h a b s) (StoreFault.Bank fault)

-- With no free cell the call is refused; the turn stands.
abbrev pub take_from : {V : Type 0} → Bool → Word → ℕ → ℕ → Word → Word → State V → After (State V) V
take_from true head work i a b s = refuse s (StoreFault.NoFreeCell work)
take_from false Word.Nil work i a b s = refuse s (StoreFault.NoFreeCell work)
take_from false (Word.Cell h) work i a b s = take_if (filling s.fixed.atoms.limit s.heap.cells h a b) work i h a b s
take_from false (Word.Atom c) work i a b s = refuse s (StoreFault.NoFreeCell work)
take_from false Word.Reserved work i a b s = refuse s (StoreFault.NoFreeCell work)

abbrev pub take : {V : Type 0} → ℕ → ℕ → ℕ → ℕ → State V → After (State V) V
take work i a b s = take_from (s.pool.count == 0) s.pool.head work i (register s.registers a) (register s.registers b) s

-- cons: a turn, and then a cell.
abbrev pub cons : {V : Type 0} → Bool → ℕ → ℕ → ℕ → State V → After (State V) V
cons says i a b s = take (work s) i a b (turn says s)

-- car and cdr, by the field that is read.
abbrev pub read_from : {V : Type 0} → (Cell → Word) → Result Cell BankFault → ℕ → State V → After (State V) V
read_from field (Ok c) i s = done (with_register i (field c) s)
read_from field (Err fault) i s = refuse s (StoreFault.Bank fault)

abbrev pub read_by : {V : Type 0} → (Cell → Word) → Word → ℕ → ℕ → State V → After (State V) V
read_by field Word.Nil i a s = refuse s (StoreFault.NotACell a)
read_by field (Word.Cell n) i a s = read_from field (asked s.heap.cells n) i s
read_by field (Word.Atom c) i a s = refuse s (StoreFault.NotACell a)
read_by field Word.Reserved i a s = refuse s (StoreFault.NotACell a)

abbrev pub read : {V : Type 0} → (Cell → Word) → ℕ → ℕ → State V → After (State V) V
read field i a s = read_by field (register s.registers a) i a s

-- rplaca and rplacd: while marking, the old word is offered first.
abbrev pub offer_in : Phase → Word → Heap → Heap
offer_in Phase.Idle w h = h
offer_in Phase.Mark w h = offer w h
offer_in Phase.Sweep w h = h

abbrev pub write : {V : Type 0} → (Word → Cell → Cell) → ℕ → Word → State V → After (State V) V
write put n w s =
    passed (with_cells (word_put put s.fixed.atoms.limit s.heap.cells n w) s) (word_taken s.fixed.atoms.limit s.heap.cells n w)

abbrev pub replace_from : {V : Type 0} → (Cell → Word) → (Word → Cell → Cell) → Result Cell BankFault → ℕ → Word → State V → After (State V) V
replace_from field put (Ok c) n w s = write put n w (with_heap (offer_in s.phase (field c) s.heap) s)
replace_from field put (Err fault) n w s = refuse s (StoreFault.Bank fault)

abbrev pub replace_by : {V : Type 0} → (Cell → Word) → (Word → Cell → Cell) → Word → ℕ → Word → State V → After (State V) V
replace_by field put Word.Nil a w s = refuse s (StoreFault.NotACell a)
replace_by field put (Word.Cell n) a w s = replace_from field put (asked s.heap.cells n) n w s
replace_by field put (Word.Atom c) a w s = refuse s (StoreFault.NotACell a)
replace_by field put Word.Reserved a w s = refuse s (StoreFault.NotACell a)

abbrev pub replace : {V : Type 0} → (Cell → Word) → (Word → Cell → Cell) → ℕ → ℕ → State V → After (State V) V
replace field put a b s = replace_by field put (register s.registers a) a (register s.registers b) s

abbrev pub car_of : Cell → Word
car_of c = c.car

abbrev pub cdr_of : Cell → Word
cdr_of c = c.cdr

-- A call whose registers are all there.
abbrev pub perform : {V : Type 0} → Bool → State V → Call V → After (State V) V
perform says s (Call.Load i v) = load i v s
perform says s (Call.Clear i) = done (with_register i Word.Nil s)
perform says s (Call.Copy i a) = done (with_register i (register s.registers a) s)
perform says s (Call.Cons i a b) = cons says i a b s
perform says s (Call.Car i a) = read car_of i a s
perform says s (Call.Cdr i a) = read cdr_of i a s
perform says s (Call.Rplaca a b) = replace car_of with_car a b s
perform says s (Call.Rplacd a b) = replace cdr_of with_cdr a b s
perform says s (Call.Look i) = answer s (Answer.Saw (seen s.fixed.atoms (register s.registers i)))
perform says s (Call.Same i j) = answer s (Answer.Same (same_word (register s.registers i) (register s.registers j)))

-- A register that is not there is refused before any other cause, and before the turn.
abbrev pub checked : {V : Type 0} → Option ℕ → Bool → State V → Call V → After (State V) V
checked (Some r) says s c = refuse s (StoreFault.NoRegister r)
checked None says s c = perform says s c

-- A call on a store, where the start rule says `says` if the turn asks it.
abbrev pub call : {V : Type 0} → Bool → State V → Call V → After (State V) V
call says s c = checked (absent (registers_of c)) says s c

-- A call on a store whose start rule is this one.
abbrev pub call_under : {V R : Type 0} → (R → ℕ → Bool) → R → State V → Call V → After (State V) V
call_under says rule s c = call (says rule s.pool.count) s c
