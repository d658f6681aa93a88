-- Which cells are reachable, and which are free.
use Rattle.std.specs.Prelude.{◌≡◌, ℕ, zero, suc, ◌⊎◌, List, [], ◌∷◌}
use Rattle.bank.specs.declared.word.Word.{Word}
use Rattle.bank.specs.declared.word.Cell.{Cell}
use Rattle.collector.specs.Lists.{Mem}
use Rattle.collector.specs.States.{State, size, roots, at}
use Rattle.collector.specs.Endless.{Endless, pair_at}

-- A cell is reachable if a root names it, or the car or cdr of a reachable cell does.
pub data Reach (roots : List Word) (car cdr : ℕ → Word) : ℕ → Type 0 where
  root : {n : ℕ} → Mem (Word.Cell n) roots → Reach roots car cdr n
  via : {m n : ℕ} → Reach roots car cdr m → (car m ≡ Word.Cell n) ⊎ (cdr m ≡ Word.Cell n) → Reach roots car cdr n

abbrev pub Reachable : {V : Type 0} → State V → ℕ → Type 0
Reachable s n = Reach (roots s) (λ m. (at s.heap.cells m).car) (λ m. (at s.heap.cells m).cdr) n

-- The same in the endless heap.
abbrev pub ReachableIn : Endless → ℕ → Type 0
ReachableIn e x = Reach e.registers (λ y. (pair_at e y).first) (λ y. (pair_at e y).second) x

-- The cells met from a word on through the cars, at most k.
abbrev pub chain_on : (ℕ → List ℕ) → Word → List ℕ
chain_on rest Word.Nil = []
chain_on rest (Word.Cell n) = n ∷ rest n
chain_on rest (Word.Atom c) = []
chain_on rest Word.Reserved = []

abbrev pub chain : ℕ → List Cell → Word → List ℕ
chain zero cells w = []
chain (suc k) cells w = chain_on (λ n. chain k cells (at cells n).car) w

-- The free list of a store.
abbrev pub free_list : {V : Type 0} → State V → List ℕ
free_list s = chain (size s) s.heap.cells s.pool.head

abbrev pub Free : {V : Type 0} → State V → ℕ → Type 0
Free s n = Mem n (free_list s)
