-- Quotients rounded up, and the arithmetic of the starvation bound.
use Rattle.std.proofs.Common.{◌≡◌, ℕ, ◌+◌, ◌-◌, ◌*◌, ◌<◌, ◌≤◌, min, ◌⊎◌, ap, ◌∙◌, subst, inl, inr, mul-le-mul_left, arith, rules}
use Rattle.std.proofs.lemmas.Bool.{cases_lt}
use Rattle.collector.specs.Laws.{ceiling, turns_for, Enough}

-- k times the quotient rounded up covers the number, and no smaller factor does.
pub ceiling-covers : (X k : ℕ) → 1 ≤ k → X ≤ k * ceiling X k
ceiling-covers X k l = omega arith

times-mono : (k a b : ℕ) → a ≤ b → k * a ≤ k * b
times-mono k a b l = mul-le-mul_left k l

pub ceiling-least : (X k q : ℕ) → 1 ≤ k → X ≤ k * q → ceiling X k ≤ q
ceiling-least X k q l h = search rules

-- A larger number, by as much at most.
pub ceiling-shift : (X d k : ℕ) → 1 ≤ k → ceiling (X + d) k ≤ ceiling X k + d
ceiling-shift X d k l = grind (arith, ceiling-least, ceiling-covers, times-mono)

-- Turns that are all full but the last are as many as the quotient rounded up, or one.
pub turns-bound : (t k X : ℕ) → 1 ≤ k → (t ≤ 1) ⊎ (k * (t - 1) < X) → t ≤ turns_for X k
turns-bound t k X l either = search (rules, cases_lt, times-mono, ceiling-covers)

pub turns-mono : (k X Y : ℕ) → 1 ≤ k → X ≤ Y → turns_for X k ≤ turns_for Y k
turns-mono k X Y l h = search rules

-- The reserve suffices for any larger free count with which a collection begins.
pub reserve-grows : (A k1 k2 M N F : ℕ) → 1 ≤ k2 → Enough A k1 k2 M N → M ≤ F → 1 + turns_for A k1 + ceiling (A + F) k2 ≤ F
reserve-grows A k1 k2 M N F l e h =
    let s : ceiling (A + M + (F - M)) k2 ≤ ceiling (A + M) k2 + (F - M) = ceiling-shift (A + M) (F - M) k2 l in
    let q : A + M + (F - M) ≡ A + F = omega arith in
    let s' : ceiling (A + F) k2 ≤ ceiling (A + M) k2 + (F - M) = subst (λ (x : ℕ). ceiling x k2 ≤ ceiling (A + M) k2 + (F - M)) q s in
    let r = e.reserve in
    omega arith

-- What a sweep turn leaves: at least one cell, and at its end the reserve.
module _ (A k1 k2 M N F fr marks i p : ℕ) (some : 1 ≤ k2) (e : Enough A k1 k2 M N) (h : M ≤ F) (m : marks ≤ turns_for A k1) (b : i ≤ turns_for N k2) (place : p ≡ min (k2 * i) N) (cover : p ≤ fr + A + F) where
  last-turns : i ≤ ceiling N k2
  last-turns = search rules

  pub sweep-leaves : 1 + marks + i ≤ F + fr
  sweep-leaves =
      let g = reserve-grows A k1 k2 M N F some e h in
      let room = e.room in
      let t = last-turns in
      elim (cases_lt (ceiling (A + F) k2) i) [
        | inl late ↦ elim (cases_lt N (k2 * i)) [
          | inl end ↦ omega arith
          | inr more ↦
              let c = ceiling-covers (A + F) k2 some in
              let d : ℕ = i - ceiling (A + F) k2 in
              let q : i ≡ ceiling (A + F) k2 + d = omega arith in
              let times : k2 * i ≡ k2 * ceiling (A + F) k2 + k2 * d = ap (λ (x : ℕ). k2 * x) q ∙ omega arith in
              let grows : d * 1 ≤ d * k2 = times-mono d 1 k2 some in
              omega arith
        ]
        | inr early ↦ omega arith
      ]

  pub sweep-ends : p ≡ N → 1 + marks + i + M ≤ F + fr
  sweep-ends q = let room = e.room in let t = last-turns in omega arith
