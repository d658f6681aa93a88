-- A lent memory of any elements: those that hold cells, and the later ones.
use Rattle.std.specs.Prelude.{◌≡◌, ℕ, min, List, ◌++◌, length, map, take, drop, replicate, slice_set}
use Rattle.std.specs.Borrow.{GName}
use Rattle.bank.specs.declared.word.Cell.{Cell}

-- The elements that hold cells: the first 4,096.
unfoldable pub front : {X : Type 0} → List X → List X
front memory = take 4096 memory

-- The later ones.
unfoldable pub later : {X : Type 0} → List X → List X
later memory = drop 4096 memory

-- What stands beside the cells: which memory it is that was lent, and its later elements.
abbrev pub lent_beside : {X : Type 0} → GName → List X → GName × List X
lent_beside name memory = (name, later memory)

-- A memory with the elements that hold cells replaced by these, and the later ones as they are.
unfoldable pub over : {X : Type 0} → List X → List X → List X
over xs memory = xs ++ later memory

-- A memory with x in each of the elements that hold cells.
unfoldable pub cleared : {X : Type 0} → X → List X → List X
cleared x memory = over (replicate (min 4096 (length memory)) x) memory

-- The cells that a memory shows, where each element shows one.
unfoldable pub shown : {X : Type 0} → (X → Cell) → List X → List Cell
shown shows memory = map shows (front memory)

-- Every element that holds a cell is the one that stores the cell that it shows: the packing of it, where cells are packed.
abbrev pub Packed : {X : Type 0} → (X → Cell) → (Cell → X) → List X → Type 0
Packed shows stores memory = front memory ≡ map stores (shown shows memory)

-- The memory with x as the element of cell n, and every other element as it is.
abbrev pub stored : {X : Type 0} → X → List X → ℕ → List X
stored x memory n = over (slice_set (front memory) n x) memory
