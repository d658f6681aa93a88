-- What a start rule is: a floor, and yes or no for each free count.
use Rattle.std.specs.Prelude.{◌≡◌, ℕ, ◌≤◌, Bool, true}

-- a count at or below the floor gets yes
abbrev pub LawfulRule : ℕ → (ℕ → Bool) → Type 0
LawfulRule floor says = (count : ℕ) → count ≤ floor → says count ≡ true
