-- A turn of the collector: a snapshot is marked, then the bank is swept, a few cells at a time.
use Rattle.std.specs.Prelude.{ℕ, zero, suc, ◌+◌, ◌-◌, min, Bool, true, false, if◌then◌else◌, List, [], ◌∷◌, ◌++◌, length, nat_le, nat_lt}
use Rattle.bank.specs.Words.{with_car, with_cdr, with_mark}
use Rattle.bank.specs.Banks.{changed, word_put}
use Rattle.bank.specs.declared.word.Word.{Word}
use Rattle.bank.specs.declared.word.Cell.{Cell}
use Rattle.listcalls.specs.declared.phase.Phase.{Phase}
use Rattle.collector.specs.Lists.{is_empty}
use Rattle.collector.specs.States.{Heap, Pool, State, roots, at}

-- The waiting stack has room for 4,096 numbers.
abbrev pub pushed : ℕ → List ℕ → List ℕ
pushed n stack = if nat_lt (length stack) 4096 then n ∷ stack else stack

-- To offer a word is to mark and push the cell that it names, if that is unmarked.
abbrev pub offer_if : Bool → ℕ → Heap → Heap
offer_if true n h = h
offer_if false n h = record { cells = changed (with_mark true) h.cells n; stack = pushed n h.stack }

abbrev pub offer : Word → Heap → Heap
offer Word.Nil h = h
offer (Word.Cell n) h = offer_if (at h.cells n).mark n h
offer (Word.Atom c) h = h
offer Word.Reserved h = h

abbrev pub offers : List Word → Heap → Heap
offers [] h = h
offers (w ∷ ws) h = offers ws (offer w h)

-- A scan pops the latest waiting cell, and offers its car and then its cdr.
abbrev pub scan_on : List ℕ → List Cell → Heap
scan_on [] cells = record { cells = cells; stack = [] }
scan_on (m ∷ stack) cells = offer (at cells m).cdr (offer (at cells m).car (record { cells = cells; stack = stack }))

abbrev pub scan : Heap → Heap
scan h = scan_on h.stack h.cells

-- Up to k scans, while a cell waits.
abbrev pub scans : ℕ → Heap → Heap
scans zero h = h
scans (suc k) h = scans k (scan h)

-- The cells that these scans pop.
abbrev pub latest : List ℕ → List ℕ
latest [] = []
latest (m ∷ stack) = m ∷ []

abbrev pub scanned : ℕ → Heap → List ℕ
scanned zero h = []
scanned (suc k) h = latest h.stack ++ scanned k (scan h)

-- The count of free cells goes up to 4,096, the most that a bank has.
abbrev pub raised : ℕ → ℕ
raised count = if nat_lt count 4096 then count + 1 else count

-- What a sweep changes.
pub record Ground : Type 0 where
  pub cells : List Cell
  pub pool : Pool

abbrev pub is_reserved : Word → Bool
is_reserved Word.Nil = false
is_reserved (Word.Cell n) = false
is_reserved (Word.Atom c) = false
is_reserved Word.Reserved = true

-- Cell n, by whether it is marked and whether it is free: a mark is taken off, a free cell stays, and any other becomes the head of the free list.
abbrev pub treat : Bool → Bool → ℕ → ℕ → Ground → Ground
treat true free limit n g = record { cells = changed (with_mark false) g.cells n; pool = g.pool }
treat false true limit n g = g
treat false false limit n g = record {
  cells = word_put with_cdr limit (word_put with_car limit g.cells n g.pool.head) n Word.Reserved;
  pool = record { head = Word.Cell n; count = raised g.pool.count; sweeper = g.pool.sweeper };
}

abbrev pub advance : Ground → Ground
advance g = record {
  cells = g.cells;
  pool = record { head = g.pool.head; count = g.pool.count; sweeper = g.pool.sweeper + 1 };
}

-- The sweep of one cell, where the sweep has not come to the end.
abbrev pub sweep_if : Bool → ℕ → Ground → Ground
sweep_if true limit g =
    advance (treat (at g.cells g.pool.sweeper).mark (is_reserved (at g.cells g.pool.sweeper).cdr) limit g.pool.sweeper g)
sweep_if false limit g = g

abbrev pub sweep : ℕ → Ground → Ground
sweep limit g = sweep_if (nat_lt g.pool.sweeper (length g.cells)) limit g

abbrev pub sweeps : ℕ → ℕ → Ground → Ground
sweeps limit zero g = g
sweeps limit (suc k) g = sweeps limit k (sweep limit g)

-- The cells that these sweeps free, by the tests of `sweep_if` and `treat`: exactly those that are made the head of the free list.
abbrev pub frees_if : Bool → Bool → Bool → ℕ → List ℕ
frees_if true false false n = n ∷ []
frees_if true false true n = []
frees_if true true free n = []
frees_if false marked free n = []

abbrev pub frees : Ground → List ℕ
frees g = frees_if (nat_lt g.pool.sweeper (length g.cells)) (at g.cells g.pool.sweeper).mark (is_reserved (at g.cells g.pool.sweeper).cdr) g.pool.sweeper

abbrev pub freed : ℕ → ℕ → Ground → List ℕ
freed limit zero g = []
freed limit (suc k) g = frees g ++ freed limit k (sweep limit g)

-- A collection begins: every root is offered, in order.
abbrev pub begun : {V : Type 0} → State V → State V
begun s = record {
  fixed = s.fixed;
  heap = offers (roots s) s.heap;
  pool = record { head = s.pool.head; count = s.pool.count; sweeper = 0 };
  registers = s.registers;
  phase = Phase.Mark;
}

-- Marking ends with the turn after which no cell waits.
abbrev pub after_scans : {V : Type 0} → State V → Heap → State V
after_scans s h = record {
  fixed = s.fixed;
  heap = h;
  pool = s.pool;
  registers = s.registers;
  phase = if is_empty h.stack then Phase.Sweep else Phase.Mark;
}

abbrev pub marked : {V : Type 0} → State V → State V
marked s = after_scans s (scans s.fixed.k1 s.heap)

-- Sweeping ends with the turn after which the sweeper is past the last cell.
abbrev pub after_sweeps : {V : Type 0} → State V → Ground → State V
after_sweeps s g = record {
  fixed = s.fixed;
  heap = record { cells = g.cells; stack = s.heap.stack };
  pool = g.pool;
  registers = s.registers;
  phase = if nat_le (length g.cells) g.pool.sweeper then Phase.Idle else Phase.Sweep;
}

abbrev pub ground : {V : Type 0} → State V → Ground
ground s = record { cells = s.heap.cells; pool = s.pool }

abbrev pub swept : {V : Type 0} → State V → State V
swept s = after_sweeps s (sweeps s.fixed.atoms.limit s.fixed.k2 (ground s))

-- A turn, by the phase and by what the start rule says of the free count, which matters only when idle.
abbrev pub turn_in : {V : Type 0} → Phase → Bool → State V → State V
turn_in Phase.Idle true s = begun s
turn_in Phase.Idle false s = s
turn_in Phase.Mark says s = marked s
turn_in Phase.Sweep says s = swept s

abbrev pub turn : {V : Type 0} → Bool → State V → State V
turn says s = turn_in s.phase says s

-- The cells that it frees.
abbrev pub freed_in : {V : Type 0} → Phase → State V → List ℕ
freed_in Phase.Idle s = []
freed_in Phase.Mark s = []
freed_in Phase.Sweep s = freed s.fixed.atoms.limit s.fixed.k2 (ground s)

-- Its work: the cells popped or swept.
abbrev pub work_in : {V : Type 0} → Phase → State V → ℕ
work_in Phase.Idle s = 0
work_in Phase.Mark s = length (scanned s.fixed.k1 s.heap)
work_in Phase.Sweep s = min s.fixed.k2 (length s.heap.cells - s.pool.sweeper)

abbrev pub work : {V : Type 0} → State V → ℕ
work s = work_in s.phase s
