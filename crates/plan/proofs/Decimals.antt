-- What the decimal of a number of at most five digits looks like.
use Rattle.std.proofs.Common.{◌≡◌, ℕ, suc, ◌+◌, ◌*◌, ◌/◌, ◌%◌, ◌<◌, ◌≤◌, List, [], ◌∷◌, ◌++◌, length, get_or, decimal, ap, ◌∙◌, inl, inr, arith}
use Rattle.std.proofs.lemmas.Fmt.{decimal_digit, decimal_step, decimal_by_steps, length-decimal-le, decimal_nonempty, first_decimal}
use Rattle.std.proofs.lemmas.List.{length-append, length_push}
use Rattle.std.proofs.lemmas.Bool.{cases_lt}
use Rattle.plan.specs.Parts.{Digit}
use Rattle.std.specs.List.{AllByRecursion as All}
use Rattle.plan.proofs.Lists.{all_append}

pub digits : (n : ℕ) → n ≤ 99999 → All Digit (decimal n)
digits n h =
    decimal_by_steps (λ m ds. All Digit ds)
    (λ m l. ((omega arith, omega arith), tt))
    (λ m ds l q. all_append Digit ds ((48 + m % 10) ∷ []) q ((omega arith, omega arith), tt))
    n (omega arith)

-- one digit more
pub digit-more : (n d : ℕ) → 0 < n → n ≤ 9999 → d < 10 → decimal (10 * n + d) ≡ decimal n ++ ((48 + d) ∷ [])
digit-more n d pos top l =
    let q : (10 * n + d) / 10 ≡ n = omega arith in
    let m : (10 * n + d) % 10 ≡ d = omega arith in
    decimal_step (10 * n + d) (omega arith) (omega arith)
    ∙ ap (λ (k : ℕ). decimal k ++ ((48 + (10 * n + d) % 10) ∷ [])) q
    ∙ ap (λ (k : ℕ). decimal n ++ ((48 + k) ∷ [])) m

one-longer : (n : ℕ) → 10 ≤ n → n ≤ 99999 → length (decimal n) ≡ length (decimal (n / 10)) + 1
one-longer n l top = ap (λ (ds : List ℕ). length ds) (decimal_step n l (omega arith)) ∙ length_push (decimal (n / 10)) (48 + n % 10)

five-long : (n : ℕ) → 10000 ≤ n → n ≤ 99999 → 5 ≤ length (decimal n)
five-long n l top =
    let a = one-longer n (omega arith) (omega arith) in
    let b = one-longer (n / 10) (omega arith) (omega arith) in
    let c = one-longer (n / 10 / 10) (omega arith) (omega arith) in
    let d = one-longer (n / 10 / 10 / 10) (omega arith) (omega arith) in
    let e = decimal_nonempty (n / 10 / 10 / 10 / 10) (omega arith) in
    omega arith

-- a zero takes no digit after it, and five digits take no sixth
pub takes-more : (x n c : ℕ) (y : List ℕ) → x ≤ 99999 → n ≤ 99999 → decimal x ≡ decimal n ++ (c ∷ y) → (0 < n) × (n < 10000)
takes-more x n c y hx hn e = (positive, few) where
  long : length (decimal x) ≡ length (decimal n) + suc (length y)
  long = ap (λ (ds : List ℕ). length ds) e ∙ length-append (decimal n) (c ∷ y)

  few : n < 10000
  few = elim (cases_lt n 10000) [
    | inl l ↦ l
    | inr l ↦ absurd (let a = five-long n l hn in let b = length-decimal-le 5 x (omega arith) (omega arith) (omega arith) in let bad : ⊥ = omega (arith, long) in bad)
  ]

  zero-first : n ≡ 0 → ⊥
  zero-first z =
      let one : decimal n ≡ 48 ∷ [] = ap (λ (k : ℕ). decimal k) z ∙ decimal_digit 0 (omega arith) in
      let at : decimal x ≡ 48 ∷ (c ∷ y) = e ∙ ap (λ (ds : List ℕ). ds ++ (c ∷ y)) one in
      let head : get_or (decimal x) 0 0 ≡ 48 = ap (λ (ds : List ℕ). get_or ds 0 0) at in
      let two : length (decimal x) ≡ suc (suc (length y)) = ap (λ (ds : List ℕ). length ds) at in
      elim (cases_lt 0 x) [
        | inl l ↦ let f = first_decimal x l (omega arith) in omega arith
        | inr l ↦ let q : length (decimal x) ≡ 1 = ap (λ (k : ℕ). length (decimal k)) (let w : x ≡ 0 = omega arith in w) ∙ ap (λ (ds : List ℕ). length ds) (decimal_digit 0 (omega arith)) in omega arith
      ]

  positive : 0 < n
  positive = elim (cases_lt 0 n) [ inl l ↦ l | inr l ↦ absurd (zero-first (omega arith)) ]
