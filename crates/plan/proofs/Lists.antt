-- Texts that are made of parts, and how they come apart again.
use Rattle.std.specs.List.{AllByRecursion as All}
use Rattle.std.proofs.Common.{◌≡◌, ℕ, ◌⊎◌, List, [], ◌∷◌, ◌++◌, get_or, drop, sym, refl, ap, subst, inl, inr}

-- a text that begins with a byte that is not such
abbrev pub Parts : (ℕ → Type 0) → List ℕ → Type 0
Parts P [] = ⊥
Parts P (s ∷ x) = P s → ⊥

pub heads : {x y : ℕ} {xs ys : List ℕ} → x ∷ xs ≡ y ∷ ys → x ≡ y
heads e = ap (λ (l : List ℕ). get_or l 0 0) e

pub tails : {x y : ℕ} {xs ys : List ℕ} → x ∷ xs ≡ y ∷ ys → xs ≡ ys
tails e = ap (λ (l : List ℕ). drop 1 l) e

pub all_append : (P : ℕ → Type 0) (xs ys : List ℕ) → All P xs → All P ys → All P (xs ++ ys)
all_append P [] ys p q = q
all_append P (x ∷ xs) ys p q = (p.0, all_append P xs ys p.1 q)

-- one part ends where such bytes end
pub tokens : (P : ℕ → Type 0) (a b x y : List ℕ) → All P a → All P b → Parts P x → Parts P y → a ++ x ≡ b ++ y → (a ≡ b) × (x ≡ y)
tokens P [] [] x y pa pb nx ny e = (refl, e)
tokens P [] (c ∷ b) [] y pa pb nx ny e = absurd nx
tokens P [] (c ∷ b) (s ∷ x) y pa pb nx ny e = absurd (nx (subst P (sym (heads e)) pb.0))
tokens P (c ∷ a) [] x [] pa pb nx ny e = absurd ny
tokens P (c ∷ a) [] x (t ∷ y) pa pb nx ny e = absurd (ny (subst P (heads e) pa.0))
tokens P (c ∷ a) (d ∷ b) x y pa pb nx ny e =
    let h = heads e in
    let r = tokens P a b x y pa.1 pb.1 nx ny (tails e) in
    (cc (h, r.0), r.1)

-- where the second text goes on with such a byte, so does the first one's part
pub goes_on : (P : ℕ → Type 0) (a b x : List ℕ) (c : ℕ) (w : List ℕ) → All P b → P c → Parts P x → a ++ x ≡ b ++ (c ∷ w) → (y : List ℕ) × (a ≡ b ++ (c ∷ y))
goes_on P [] [] [] c w pb pc nx e = absurd nx
goes_on P [] [] (s ∷ x) c w pb pc nx e = absurd (nx (subst P (sym (heads e)) pc))
goes_on P [] (d ∷ b) [] c w pb pc nx e = absurd nx
goes_on P [] (d ∷ b) (s ∷ x) c w pb pc nx e = absurd (nx (subst P (sym (heads e)) pb.0))
goes_on P (d ∷ a) [] x c w pb pc nx e = (a, ap (λ (n : ℕ). n ∷ a) (heads e))
goes_on P (d ∷ a) (f ∷ b) x c w pb pc nx e =
    let h = heads e in
    let r = goes_on P a b x c w pb.1 pc nx (tails e) in
    (r.0, cc (h, r.1))

-- of two beginnings of one text, one begins with the other
pub fronts : (f r g s : List ℕ) → f ++ r ≡ g ++ s → ((m : List ℕ) × (g ≡ f ++ m) × (r ≡ m ++ s)) ⊎ ((c : ℕ) × (m : List ℕ) × (f ≡ g ++ (c ∷ m)) × (s ≡ (c ∷ m) ++ r))
fronts [] r g s e = inl (g, refl, e)
fronts (x ∷ f) r [] s e = inr (x, f, refl, sym e)
fronts (x ∷ f) r (y ∷ g) s e =
    let h = heads e in
    elim (fronts f r g s (tails e)) [
      | inl q ↦ inl (q.0, cc (h, q.1), q.2)
      | inr q ↦ inr (q.0, q.1, cc (h, q.2), q.3)
    ]
