-- How a number of one or two digits is written.
use Rattle.std.proofs.Common.{◌≡◌, ℕ, ◌+◌, ◌/◌, ◌%◌, ◌<◌, ◌≤◌, [], ◌∷◌, decimal, sym, ap, ◌∙◌, ◌++◌, List, arith}
use Rattle.std.proofs.lemmas.Fmt.{decimal_digit, decimal_step}
use Rattle.std.proofs.lemmas.List.{append_assoc}

pub one_digit : (n : ℕ) → n < 10 → decimal n ≡ (48 + n) ∷ []
one_digit = decimal_digit

two_digits : (n : ℕ) → 10 ≤ n → n < 100 → decimal n ≡ (48 + n / 10) ∷ (48 + n % 10) ∷ []
two_digits n low high =
    decimal_step n low (omega arith) ∙ ap (λ (ds : List ℕ). ds ++ ((48 + n % 10) ∷ [])) (decimal_digit (n / 10) (omega arith))

pub two_pushed : (n : ℕ) (before mid text : List ℕ) → 10 ≤ n → n < 100 → mid ≡ before ++ (48 + n / 10) ∷ [] → text ≡ mid ++ (48 + n % 10) ∷ []
    → text ≡ before ++ decimal n
two_pushed n before mid text low high first second =
    second ∙ ap (λ (bs : List ℕ). bs ++ (48 + n % 10) ∷ []) first
    ∙ append_assoc before ((48 + n / 10) ∷ []) ((48 + n % 10) ∷ [])
    ∙ ap (λ (bs : List ℕ). before ++ bs) (sym (two_digits n low high))
