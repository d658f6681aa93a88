-- How far two texts agree.
use Rattle.std.proofs.Common.{◌≡◌, ℕ, suc, ◌+◌, ◌≤◌, min, Bool, true, false, cond, eqb, ◌==◌, List, [], ◌∷◌, ◌++◌, length, take, drop, sym, refl, ap, ◌∙◌, subst, arith}
use Rattle.std.specs.List.{prefix_len, zip}
use Rattle.std.proofs.lemmas.Bool.{cond-true, eq-eqb, eqb-true}
use Rattle.std.proofs.lemmas.List.{take-append-drop, take_all}
use Rattle.std.proofs.lemmas.List.Folds.{length-prefix_len}
use Rattle.std.proofs.lemmas.List.Sums.{prefix_len-le-length}
use Rattle.std.proofs.lemmas.Slice.Zip.{length-zip}
use Rattle.plan.specs.Names.{agree}

abbrev same : ℕ × ℕ → Bool
same p = p.0 == p.1

agree-is : (w t : List ℕ) → agree w t ≡ prefix_len same (zip w t)
agree-is w t = length-prefix_len same (zip w t)

pub agree-le : (w t : List ℕ) → (agree w t ≤ length w) × (agree w t ≤ length t)
agree-le w t =
    let h : agree w t ≤ min (length w) (length t) = omega (arith, agree-is w t, prefix_len-le-length same (zip w t), length-zip w t) in
    (omega arith, omega arith)

agree-step : (x y : ℕ) (w t : List ℕ) → agree (x ∷ w) (y ∷ t) ≡ cond (eqb x y) (suc (agree w t)) 0
agree-step x y w t =
    let e : 1 + prefix_len same (zip w t) ≡ suc (agree w t) = omega (arith, agree-is w t) in
    agree-is (x ∷ w) (y ∷ t) ∙ ap (λ (n : ℕ). cond (eqb x y) n 0) e

agree-if : (b : Bool) (x y : ℕ) (w t : List ℕ) → eqb x y ≡ b → (take (agree w t) w ≡ take (agree w t) t) → take (cond b (suc (agree w t)) 0) (x ∷ w) ≡ take (cond b (suc (agree w t)) 0) (y ∷ t)
agree-if true x y w t e h = ap (λ (n : ℕ). n ∷ take (agree w t) w) (eqb-true x y e) ∙ ap (λ (l : List ℕ). y ∷ l) h
agree-if false x y w t e h = refl

-- as far as they agree they are the same
pub agree-front : (w t : List ℕ) → take (agree w t) w ≡ take (agree w t) t
agree-front [] t = refl
agree-front (x ∷ w) [] = refl
agree-front (x ∷ w) (y ∷ t) = rw (agree-step x y w t) (agree-if (eqb x y) x y w t refl (agree-front w t))

-- a text that agrees with a whole word begins with it
pub agree-whole : (w t : List ℕ) → agree w t ≡ length w → t ≡ w ++ drop (length w) t
agree-whole w t e =
    let f : w ≡ take (length w) t = sym (take_all (length w) w (omega arith)) ∙ subst (λ (n : ℕ). take n w ≡ take n t) e (agree-front w t) in
    sym (take-append-drop (length w) t) ∙ ap (λ (l : List ℕ). l ++ drop (length w) t) (sym f)

-- they agree on what both begin with
agree-most : (f m r : List ℕ) → length f ≤ agree (f ++ m) (f ++ r)
agree-most [] m r = omega arith
agree-most (x ∷ f) m r =
    let h = agree-most f m r in
    let e = agree-step x x (f ++ m) (f ++ r) ∙ cond-true (eqb x x) (suc (agree (f ++ m) (f ++ r))) 0 (eq-eqb x x refl) in
    omega (arith, e)

pub agree-begins : (w t f m r : List ℕ) → w ≡ f ++ m → t ≡ f ++ r → length f ≤ agree w t
agree-begins w t f m r p q = rw (p, q) (agree-most f m r)
