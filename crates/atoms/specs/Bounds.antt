-- The bounds that the types of values carry.
use Rattle.std.specs.Prelude.{ℕ, ◌+◌, ◌<◌, ◌≤◌}

-- a zone's length is 1 to 65,535, and it ends within 65,536 track units
abbrev pub IsZone : ℕ → ℕ → Type 0
IsZone offset length = (1 ≤ length) × (length ≤ 65535) × (offset + length ≤ 65536)

-- what eight bits hold
abbrev pub IsByte : ℕ → Type 0
IsByte n = n < 256
