-- The bounds of an effort.
use Rattle.std.specs.Prelude.{ℕ, ◌≤◌}

-- what one turn may treat: 1 to 64 cells
abbrev pub IsShare : ℕ → Type 0
IsShare k = (1 ≤ k) × (k ≤ 64)

abbrev pub IsEffort : ℕ → ℕ → Type 0
IsEffort k1 k2 = IsShare k1 × IsShare k2
