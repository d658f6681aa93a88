-- A write through a window.
use Rattle.std.proofs.Common.{◌≡◌, ℕ, ◌+◌, ◌-◌, ◌<◌, min, List, length, get_or, take, drop, Ok, Err, Result, inl, inr, sym, refl, ◌∙◌, arith}
use Rattle.std.proofs.lemmas.List.{length-take, length-drop, get_or-take, get_or-drop, take-append-drop, drop-drop, take-set-le, drop-set-lt, drop-set-add}
use Rattle.std.proofs.Math.Seq.{take-set-lt}
use Rattle.std.proofs.lemmas.Bool.{lt-ltb, cases_Bool}
use Rattle.bank.specs.declared.word.Cell.{Cell}
use Rattle.bank.specs.declared.word.Change.{Change}
use Rattle.bank.specs.declared.fault.BankFault.{BankFault}
use Rattle.bank.specs.Words.{blank, word_in, with_change}
use Rattle.bank.specs.Banks.{on_cell, fits, changed, change_put, merged, cell_put}
use Rattle.bank.proofs.Laws.{on_cell-told, on_cell-refused, changed-past}
use Rattle.layers.specs.Windows.{windowed, framed}

pub length-windowed : (o l : ℕ) (cells : List Cell) → length (windowed o l cells) ≡ min l (length cells - o)
unfolding windowed
length-windowed o l cells = rw (length-take, length-drop)

-- A cell of the window, as a cell below.
inside : (o l : ℕ) (cells : List Cell) (n : ℕ) → n < length (windowed o l cells) → (o + n < length cells) × (n < l)
inside o l cells n h = let e = length-windowed o l cells in (omega arith, omega arith)

pub get_or-windowed : (o l : ℕ) (cells : List Cell) (n : ℕ) → n < length (windowed o l cells) → get_or cells (o + n) blank ≡ get_or (windowed o l cells) n blank
unfolding windowed
get_or-windowed o l cells n h = rw (get_or-take l (drop o cells) n blank (inside o l cells n h).1, get_or-drop o cells n blank)

pub on_cell-windowed : {A : Type 0} (o l : ℕ) (cells : List Cell) (n : ℕ) (r : Result A BankFault) → n < length (windowed o l cells) → on_cell cells (o + n) r ≡ on_cell (windowed o l cells) n r
on_cell-windowed o l cells n r h = rw (lt-ltb (o + n) (length cells) (inside o l cells n h).0, lt-ltb n (length (windowed o l cells)) h)

pub changed-windowed : (o l : ℕ) (f : Cell → Cell) (cells : List Cell) (n : ℕ) → n < length (windowed o l cells) → windowed o l (changed f cells (o + n)) ≡ changed f (windowed o l cells) n
unfolding windowed
changed-windowed o l f cells n h = rw (drop-set-add o cells n (f (get_or cells (o + n) blank)), take-set-lt l (drop o cells) n (f (get_or cells (o + n) blank)) (inside o l cells n h).1, get_or-windowed o l cells n h)

-- A list is what lies before, in and after the window.
pub framed-windowed : (o l : ℕ) (cells : List Cell) → framed o l cells (windowed o l cells) ≡ cells
unfolding windowed framed
framed-windowed o l cells = rw (← drop-drop l o cells, take-append-drop l (drop o cells), take-append-drop o cells)

-- A cell of the window changed, and none around it.
pub around-changed : (o l : ℕ) (f : Cell → Cell) (cells : List Cell) (n : ℕ) → n < length (windowed o l cells) → (take o (changed f cells (o + n)) ≡ take o cells) × (drop (o + l) (changed f cells (o + n)) ≡ drop (o + l) cells)
around-changed o l f cells n h = (take-set-le o cells (o + n) _ (omega arith), drop-set-lt (o + l) cells (o + n) _ (omega (arith, (inside o l cells n h).1)))

pub framed-changed : (o l : ℕ) (f : Cell → Cell) (cells : List Cell) (n : ℕ) → n < length (windowed o l cells) → framed o l cells (changed f (windowed o l cells) n) ≡ changed f cells (o + n)
unfolding framed
framed-changed o l f cells n h =
    let around = around-changed o l f cells n h in
    rw (← changed-windowed o l f cells n h, ← around.0, ← around.1) (framed-windowed o l (changed f cells (o + n)))

-- A change through a window, as the change below.
pub put-windowed : (limit o l : ℕ) (change : Change) (cells : List Cell) (n : ℕ) → n < length (windowed o l cells) → windowed o l (change_put limit cells (o + n) change) ≡ change_put limit (windowed o l cells) n change
put-windowed limit o l change cells n h =
    elim (cases_Bool (fits limit (word_in change))) [ inl t ↦ rw t (changed-windowed o l (with_change change) cells n h) | inr t ↦ rw t ]

pub framed-put : (limit o l : ℕ) (change : Change) (cells : List Cell) (n : ℕ) → n < length (windowed o l cells) → framed o l cells (change_put limit (windowed o l cells) n change) ≡ change_put limit cells (o + n) change
framed-put limit o l change cells n h =
    elim (cases_Bool (fits limit (word_in change))) [
      | inl t ↦ rw t (framed-changed o l (with_change change) cells n h)
      | inr t ↦ rw t (framed-windowed o l cells)
    ]

pub around-put : (limit o l : ℕ) (change : Change) (cells : List Cell) (n : ℕ) → n < length (windowed o l cells)
    → (take o (change_put limit cells (o + n) change) ≡ take o cells) × (drop (o + l) (change_put limit cells (o + n) change) ≡ drop (o + l) cells)
around-put limit o l change cells n h =
    elim (cases_Bool (fits limit (word_in change))) [
      | inl t ↦ rw t (around-changed o l (with_change change) cells n h)
      | inr t ↦ rw t (refl, refl)
    ]

-- A whole cell put through a window, where it has cell n.
module _ (limit o l : ℕ) (cells after : List Cell) (n m : ℕ) (cell : Cell) (there : Ok m ≡ on_cell (windowed o l cells) n (Ok (o + n))) (put : after ≡ cell_put limit cells m cell) where
  as_below : (n < length (windowed o l cells)) × (after ≡ changed (merged limit cell) cells (o + n))
  as_below = let told = on_cell-told (windowed o l cells) n (o + n) m there in (told.0, rw told.1 at put)

  pub whole_after : windowed o l after ≡ cell_put limit (windowed o l cells) n cell
  whole_after = rw as_below.1 (changed-windowed o l (merged limit cell) cells n as_below.0)

  pub whole_framed : after ≡ framed o l cells (cell_put limit (windowed o l cells) n cell)
  whole_framed = as_below.1 ∙ sym (framed-changed o l (merged limit cell) cells n as_below.0)

  pub whole_before : take o after ≡ take o cells
  whole_before = rw as_below.1 (around-changed o l (merged limit cell) cells n as_below.0).0

  pub whole_behind : drop (o + l) after ≡ drop (o + l) cells
  whole_behind = rw as_below.1 (around-changed o l (merged limit cell) cells n as_below.0).1

-- And where it has none.
pub whole_past : (limit o l : ℕ) (cells : List Cell) (n : ℕ) (cell : Cell) (fault : BankFault) → Err fault ≡ on_cell (windowed o l cells) n (Ok (o + n)) → cells ≡ framed o l cells (cell_put limit (windowed o l cells) n cell)
whole_past limit o l cells n cell fault e =
    let past = (on_cell-refused (windowed o l cells) n (o + n) fault e).0 in
    rw (changed-past (merged limit cell) (windowed o l cells) n past) (sym (framed-windowed o l cells))

-- What the write of a whole cell uses.
pub ruleset of_laying = (whole_after, whole_before, whole_behind, whole_past)

-- How many cells a window shows.
pub ruleset of_size = (length-windowed)
