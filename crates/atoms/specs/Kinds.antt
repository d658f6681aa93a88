-- What a kind of atom is: two maps between values and codes, and their law.
use Rattle.std.specs.Prelude.{◌≡◌, ◌↔◌, ℕ, ◌^◌, ◌<◌, Some, Option}

pub record LawfulKind {V : Type 0} (coded : V → ℕ) (valued : ℕ → Option V) : Type 0 where
  -- the code of v has the value v
  pub reads : (v : V) → valued (coded v) ≡ Some v
  -- a code with the value v is the code of v
  pub only : (c : ℕ) (v : V) → valued c ≡ Some v → c ≡ coded v
  -- codes are 0 to 4,294,967,295
  pub range : (v : V) → coded v < 2 ^ 32

-- no two values share a code
abbrev pub Apart : {V : Type 0} → (V → ℕ) → Type 0
Apart {V} coded = (v w : V) → coded v ≡ coded w → v ≡ w

-- every value reads back from its code
abbrev pub ReadsBack : {V : Type 0} → (V → ℕ) → (ℕ → Option V) → Type 0
ReadsBack {V} coded valued = (v : V) → valued (coded v) ≡ Some v

-- a code has the value v exactly where it is the code of v
abbrev pub ValueOf : {V : Type 0} → (V → ℕ) → ℕ → Option V → Type 0
ValueOf {V} coded code r = (v : V) → (r ≡ Some v) ↔ (code ≡ coded v)
