-- Writes to a list of any elements.
use Rattle.std.proofs.Common.{◌≡◌, ℕ, zero, suc, List, [], ◌∷◌, take, set, refl, ap}

pub take-set-any : {X : Type 0} (l : ℕ) (xs : List X) (n : ℕ) (x : X) → take l (set xs n x) ≡ set (take l xs) n x
take-set-any zero xs n x = refl
take-set-any (suc l) [] n x = refl
take-set-any (suc l) (y ∷ xs) zero x = refl
take-set-any (suc l) (y ∷ xs) (suc n) x = ap (λ t. y ∷ t) (take-set-any l xs n x)
