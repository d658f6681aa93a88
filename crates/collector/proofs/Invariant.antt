-- What every state of a run satisfies, against the collection that is going on or was last finished. No path is ever followed: everything is said against the state in which the collection began.
use Rattle.std.proofs.Common.{◌≡◌, ℕ, ◌<◌, ◌≤◌, true, false, ◌⊎◌, List, [], ◌∷◌, ◌++◌, length}
use Rattle.bank.specs.declared.word.Word.{Word}
use Rattle.bank.specs.declared.word.Cell.{Cell}
use Rattle.listcalls.specs.declared.phase.Phase.{Phase}
use Rattle.collector.specs.Lists.{Mem, Distinct, Each}
use Rattle.collector.specs.States.{Heap, Pool, State, at, size, roots}
use Rattle.collector.specs.Calls.{car_of, cdr_of}
use Rattle.collector.specs.Reach.{Reachable, Free}
use Rattle.collector.specs.Runs.{Collection}
use Rattle.collector.specs.Laws.{Grounded}

-- A cell is vacant if its cdr is reserved; in every state of a run these are the cells of the free list.
abbrev pub Vacant : List Cell → ℕ → Type 0
Vacant cs n = (at cs n).cdr ≡ Word.Reserved

-- A word is sound if it names a cell of Q, or is an atom within the limit, or nil.
abbrev pub Sound : ℕ → (ℕ → Type 0) → Word → Type 0
Sound limit Q Word.Nil = Unit {0}
Sound limit Q (Word.Cell n) = Q n
Sound limit Q (Word.Atom c) = c ≤ limit
Sound limit Q Word.Reserved = ⊥

-- Q is closed: the roots and the cells of Q hold sound words only.
pub record Closed (limit : ℕ) (Q : ℕ → Type 0) (cs : List Cell) (ws : List Word) : Type 0 where
  pub inside : (n : ℕ) → Q n → n < length cs
  pub cars : (n : ℕ) → Q n → Sound limit Q (at cs n).car
  pub cdrs : (n : ℕ) → Q n → Sound limit Q (at cs n).cdr
  pub words : Each (Sound limit Q) ws

-- fs is the chain of cells from w on.
abbrev pub Links : List Cell → Word → List ℕ → Type 0
Links cs w [] = w ≡ Word.Nil
Links cs w (n ∷ ns) = (w ≡ Word.Cell n) × Links cs (at cs n).car ns

pub record Listed (cs : List Cell) (head : Word) (count : ℕ) (fs : List ℕ) : Type 0 where
  pub links : Links cs head fs
  pub distinct : Distinct fs
  pub counted : length fs ≡ count
  pub vacant : (n : ℕ) → Mem n fs → Vacant cs n
  pub only : (n : ℕ) → Vacant cs n → Mem n fs

-- The cells that may be in use, where R were reachable and F free when the collection began and the sweep stands at p.
pub record Live (R F : ℕ → Type 0) (p : ℕ) (cs : List Cell) (n : ℕ) : Type 0 where
  pub within : n < length cs
  pub used : Vacant cs n → ⊥
  pub known : (n < p) ⊎ (R n ⊎ F n)

-- What the sweep has freed below p, and that it has passed nothing else but scanned cells and cells that were free.
pub record Freed (R F : ℕ → Type 0) (p : ℕ) (popped freed : List ℕ) : Type 0 where
  pub once : Distinct freed
  pub only : (n : ℕ) → Mem n freed → (n < p) × (R n → ⊥) × (F n → ⊥)
  pub all : (n : ℕ) → n < p → (R n → ⊥) → (F n → ⊥) → Mem n freed
  pub cover : (n : ℕ) → n < p → Mem n freed ⊎ (Mem n popped ⊎ F n)

-- Marked, or naming no cell.
abbrev pub Done : List Cell → Word → Type 0
Done cs Word.Nil = Unit {0}
Done cs (Word.Cell n) = (at cs n).mark ≡ true
Done cs (Word.Atom c) = Unit {0}
Done cs Word.Reserved = Unit {0}

-- Not yet scanned: unmarked, or waiting, or in hand.
abbrev pub Open : List ℕ → List Cell → List ℕ → ℕ → Type 0
Open hand cs stack m = ((at cs m).mark ≡ false) ⊎ Mem m (hand ++ stack)

-- A field of a cell that was reachable: what it named then is marked, or the cell is still to be scanned and the field is as it was.
abbrev pub Kept : (Cell → Word) → (ℕ → Type 0) → List Cell → List ℕ → List Cell → List ℕ → Type 0
Kept field R old hand cs stack =
    (m : ℕ) → R m → Done cs (field (at old m)) ⊎ (Open hand cs stack m × (field (at cs m) ≡ field (at old m)))

pub record Marking (R F : ℕ → Type 0) (old : List Cell) (hand popped : List ℕ) (cs : List Cell) (stack : List ℕ) : Type 0 where
  pub holds : (n : ℕ) → n < length cs → (at cs n).mark ≡ true → Live R F 0 cs n
  pub taken : (n : ℕ) → F n → (Vacant cs n → ⊥) → (at cs n).mark ≡ true
  pub waits : (m : ℕ) → Mem m stack → R m × ((at cs m).mark ≡ true)
  pub scanned : (m : ℕ) → Mem m popped → R m × ((at cs m).mark ≡ true)
  pub waits-once : Distinct stack
  pub scanned-once : Distinct popped
  pub apart : (m : ℕ) → Mem m stack → Mem m popped → ⊥
  pub all : (m : ℕ) → R m → (at cs m).mark ≡ true → Mem m stack ⊎ Mem m popped
  pub keeps-car : Kept car_of R old hand cs stack
  pub keeps-cdr : Kept cdr_of R old hand cs stack

-- Marks while sweeping, and when idle: none below the sweeper, and from there on exactly those of live cells.
pub record Sweeping (R F : ℕ → Type 0) (p : ℕ) (popped : List ℕ) (cs : List Cell) (stack : List ℕ) : Type 0 where
  pub low : (n : ℕ) → n < p → n < length cs → (at cs n).mark ≡ false
  pub holds : (n : ℕ) → p ≤ n → n < length cs → (at cs n).mark ≡ true → Live R F p cs n
  pub live : (n : ℕ) → p ≤ n → Live R F p cs n → (at cs n).mark ≡ true
  pub rest : stack ≡ []
  pub covers : (n : ℕ) → R n → Mem n popped

-- The state in which the collection began: what was reachable was within the bank and not free.
pub record Past (R F : ℕ → Type 0) (size : ℕ) : Type 0 where
  pub inside : (n : ℕ) → R n → n < size
  pub apart : (n : ℕ) → R n → F n → ⊥

pub record Core (R F : ℕ → Type 0) (popped freed : List ℕ) (limit : ℕ) (cs : List Cell) (pool : Pool) (ws : List Word) : Type 0 where
  pub closed : Closed limit (Live R F pool.sweeper cs) cs ws
  pub fs : List ℕ
  pub listed : Listed cs pool.head pool.count fs
  pub above : (n : ℕ) → Vacant cs n → pool.sweeper ≤ n → F n
  pub past : Past R F (length cs)
  pub log : Freed R F pool.sweeper popped freed

abbrev pub Phased : Phase → (R F : ℕ → Type 0) → List Cell → List Word → List ℕ → Heap → ℕ → Type 0
Phased Phase.Idle R F old ws popped h p = (p ≡ length h.cells) × Sweeping R F p popped h.cells h.stack
Phased Phase.Mark R F old ws popped h p = (p ≡ 0) × Marking R F old [] popped h.cells h.stack × Each (Done h.cells) ws
Phased Phase.Sweep R F old ws popped h p = (p ≤ length h.cells) × Sweeping R F p popped h.cells h.stack

pub record Inv {V : Type 0} (c : Collection V) (s : State V) : Type 0 where
  pub grounded : Grounded s.fixed (size s)
  pub core : Core (Reachable c.began) (Free c.began) c.scanned_cells c.freed_cells s.fixed.atoms.limit s.heap.cells s.pool (roots s)
  pub phased : Phased s.phase (Reachable c.began) (Free c.began) c.began.heap.cells (roots c.began) c.scanned_cells s.heap s.pool.sweeper
  pub same_size : size c.began ≡ size s
  pub same-fixed : c.began.fixed ≡ s.fixed
