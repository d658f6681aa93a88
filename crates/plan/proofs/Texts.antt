-- Texts that begin in one way and go on in another.
use Rattle.std.proofs.Common.{◌≡◌, ℕ, List, [], ◌∷◌, ◌++◌, sym, subst}
use Rattle.std.proofs.lemmas.List.{append_assoc}
use Rattle.plan.specs.Readings.{Halts, Stuck}

-- what comes after these bytes in the texts that begin with them
pub record Rest (L : List ℕ → Type 0) (front : List ℕ) (R : List ℕ → Type 0) : Type 0 where
  pub onto : (t : List ℕ) → R t → L (front ++ t)
  pub back : (t : List ℕ) → L (front ++ t) → R t

halts-on : (L R : List ℕ → Type 0) (f g t : List ℕ) → Rest L f R → Halts R g t → Halts L (f ++ g) t
halts-on L R f g [] r h = tt
halts-on L R f g (b ∷ t) r h = λ more w. h more (r.back (g ++ (b ∷ more)) (subst L (append_assoc f g (b ∷ more)) w))

-- a text that fails after a good beginning fails as a whole
pub stuck-on : {L R : List ℕ → Type 0} {f text mid left : List ℕ} → Rest L f R → text ≡ f ++ mid → Stuck R mid left → Stuck L text left
stuck-on {L} {R} {f} {text} {mid} {left} r e s =
    record {
      front = f ++ s.front;
      cut = cc (s.cut, append_assoc f s.front left);
      begins = (s.begins.0, s.begins.1, subst L (sym (append_assoc f s.front s.begins.0)) (r.onto (s.front ++ s.begins.0) s.begins.2));
      halts = halts-on L R f s.front left r s.halts;
    }
