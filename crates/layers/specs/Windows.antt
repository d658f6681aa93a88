-- A window on a list of cells.
use Rattle.std.specs.Prelude.{ℕ, ◌+◌, List, ◌++◌, take, drop}
use Rattle.std.proofs.Common.{arith, length-take, length-drop}
use Rattle.bank.specs.declared.word.Cell.{Cell}
use Rattle.bank.specs.Banks.{Sound}
use Rattle.layers.specs.declared.window.Window.{Window}

-- The cells n with o ≤ n < o + l, numbered from 0.
unfoldable pub windowed : ℕ → ℕ → List Cell → List Cell
windowed o l cells = take l (drop o cells)

-- The cells with those in the window replaced, and no other.
unfoldable pub framed : ℕ → ℕ → List Cell → List Cell → List Cell
framed o l cells inner = take o cells ++ (inner ++ drop (o + l) cells)

-- What a window shows, by what the bank below shows.
abbrev pub window_cells : {B : Type 0} → (B → List Cell) → Window B → List Cell
window_cells cells w = windowed w.offset w.len (cells w.below)

-- What stands beside the cells that a window shows: where it lies, the cells before and after it, and what stands beside those below.
pub record BesideWindow (A : Type 0) : Type 0 where
  pub offset : ℕ
  pub len : ℕ
  pub before : List Cell
  pub after : List Cell
  pub below : A

abbrev pub window_beside : {A B : Type 0} → (B → List Cell) → (B → A) → Window B → BesideWindow A
window_beside cells beside w = record {
  offset = w.offset;
  len = w.len;
  before = take w.offset (cells w.below);
  after = drop (w.offset + w.len) (cells w.below);
  below = beside w.below;
}

pub sound-window : (o l : ℕ) {limit : ℕ} {cells : List Cell} → Sound limit cells → Sound limit (windowed o l cells)
unfolding windowed
sound-window o l h = record { few = rw (length-take, length-drop) (omega (arith, h.few)); wide = h.wide }
