-- The starvation bound as a test.
use Rattle.std.specs.Prelude.{◌≡◌, ℕ, ◌+◌, Bool, true, ◌&&◌, nat_le}
use Rattle.collector.specs.Laws.{Enough, turns_for, ceiling}

abbrev pub is_enough : ℕ → ℕ → ℕ → ℕ → ℕ → Bool
is_enough A k1 k2 M N = nat_le (1 + turns_for A k1 + ceiling (A + M) k2) M && nat_le (1 + turns_for A k1 + M + A + ceiling N k2) N

-- It says yes exactly where the bound holds.
abbrev pub BoundTested : Type 0
BoundTested = (A k1 k2 M N : ℕ) → (is_enough A k1 k2 M N ≡ true → Enough A k1 k2 M N) × (Enough A k1 k2 M N → is_enough A k1 k2 M N ≡ true)
