-- Two lists of cells as one.
use Rattle.std.specs.Prelude.{ℕ, ◌-◌, min, if◌then◌else◌, List, ◌++◌, length, take, drop, nat_lt}
use Rattle.std.proofs.Common.{arith, length-take}
use Rattle.bank.specs.declared.word.Cell.{Cell}
use Rattle.bank.specs.Banks.{Sound}
use Rattle.layers.specs.declared.join.Join.{Join}
use Rattle.layers.specs.declared.join.Side.{Side}

-- The first list and then the second, the first 4,096 cells in all.
unfoldable pub joined : List Cell → List Cell → List Cell
joined first second = take 4096 (first ++ second)

-- What lies past them.
unfoldable pub beyond : List Cell → List Cell → List Cell
beyond first second = drop 4096 (first ++ second)

-- Where cell n lies, when the first list has k cells.
abbrev pub side_of : ℕ → ℕ → Side
side_of k n = if nat_lt n k then Side.First n else Side.Second (n - k)

-- What a join shows and takes, by what its two banks do.
abbrev pub join_cells : {F G : Type 0} → (F → List Cell) → (G → List Cell) → Join F G → List Cell
join_cells cells cells' j = joined (cells j.first) (cells' j.second)

abbrev pub join_limit : {F G : Type 0} → (F → ℕ) → (G → ℕ) → Join F G → ℕ
join_limit limit limit' j = min (limit j.first) (limit' j.second)

-- What stands beside the cells that a join shows: where the first bank ends, the cells past those shown, and each bank's limit and what stands beside its cells.
pub record BesideJoin (A C : Type 0) : Type 0 where
  pub split : ℕ
  pub past : List Cell
  pub first_limit : ℕ
  pub second_limit : ℕ
  pub first : A
  pub second : C

abbrev pub join_beside : {A C F G : Type 0} → (F → ℕ) → (G → ℕ) → (F → List Cell) → (G → List Cell) → (F → A) → (G → C) → Join F G → BesideJoin A C
join_beside limit limit' cells cells' beside beside' j = record {
  split = length (cells j.first);
  past = beyond (cells j.first) (cells' j.second);
  first_limit = limit j.first;
  second_limit = limit' j.second;
  first = beside j.first;
  second = beside' j.second;
}

pub sound-join : {l m : ℕ} {first second : List Cell} → Sound l first → Sound m second → Sound (min l m) (joined first second)
unfolding joined
sound-join h k = record { few = rw length-take (omega arith); wide = omega (arith, h.wide, k.wide) }
