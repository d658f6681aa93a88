-- Facts about lists as sets of numbers.
use Rattle.std.proofs.Common.{◌≡◌, ℕ, zero, suc, ◌<◌, ◌≤◌, true, ◌⊎◌, List, [], ◌∷◌, ◌++◌, ◌+◌, length, get_or, set, sym, refl, ap, subst, inl, inr, arith, rules}
use Rattle.std.specs.List.{range_with_len}
use Rattle.std.proofs.lemmas.List.FromFn.{length-range_with_len}
use Rattle.std.proofs.lemmas.Bool.{cases_eq}
use Rattle.collector.specs.Lists.{Mem, Distinct, Each, is_empty}

module _ {A : Type 0} where
  pub mem-left : (x : A) (xs ys : List A) → Mem x xs → Mem x (xs ++ ys)
  mem-left x [] ys m = absurd m
  mem-left x (z ∷ xs) ys (inl e) = inl e
  mem-left x (z ∷ xs) ys (inr m) = inr (mem-left x xs ys m)

  pub mem-right : (x : A) (xs ys : List A) → Mem x ys → Mem x (xs ++ ys)
  mem-right x [] ys m = m
  mem-right x (z ∷ xs) ys m = inr (mem-right x xs ys m)

  pub mem-either : (x : A) (xs ys : List A) → Mem x (xs ++ ys) → Mem x xs ⊎ Mem x ys
  mem-either x [] ys m = inr m
  mem-either x (z ∷ xs) ys (inl e) = inl (inl e)
  mem-either x (z ∷ xs) ys (inr m) = search (rules, mem-either x xs ys m)

  pub distinct_append : (xs ys : List A) → Distinct xs → Distinct ys → ((x : A) → Mem x xs → Mem x ys → ⊥) → Distinct (xs ++ ys)
  distinct_append [] ys dx dy apart = dy
  distinct_append (z ∷ xs) ys dx dy apart = (
    λ m. elim (mem-either z xs ys m) [ inl a ↦ dx.0 a | inr b ↦ apart z (inl refl) b ],
    distinct_append xs ys dx.1 dy (λ x a b. apart x (inr a) b),
  )

  pub each_of : {P : A → Type 0} (xs : List A) → ((x : A) → Mem x xs → P x) → Each P xs
  each_of [] f = tt
  each_of (x ∷ xs) f = (f x (inl refl), each_of xs (λ y m. f y (inr m)))

  pub each_at : (P : A → Type 0) (xs : List A) → Each P xs → (x : A) → Mem x xs → P x
  each_at P [] h x m = absurd m
  each_at P (y ∷ ys) h x (inl e) = subst P (sym e) h.0
  each_at P (y ∷ ys) h x (inr m) = each_at P ys h.1 x m

  pub each_map : (P Q : A → Type 0) → ((x : A) → P x → Q x) → (xs : List A) → Each P xs → Each Q xs
  each_map P Q f [] h = tt
  each_map P Q f (x ∷ xs) h = (f x h.0, each_map P Q f xs h.1)

  pub each-get_or : (P : A → Type 0) (d : A) → P d → (xs : List A) → Each P xs → (i : ℕ) → P (get_or xs i d)
  each-get_or P d p [] h i = p
  each-get_or P d p (x ∷ xs) h zero = h.0
  each-get_or P d p (x ∷ xs) h (suc i) = each-get_or P d p xs h.1 i

  pub each_set : (P : A → Type 0) (xs : List A) → Each P xs → (i : ℕ) (y : A) → P y → Each P (set xs i y)
  each_set P [] h i y p = tt
  each_set P (x ∷ xs) h zero y p = (p, h.1)
  each_set P (x ∷ xs) h (suc i) y p = (h.0, each_set P xs h.1 i y p)

  pub mem-set : (x y : A) (xs : List A) (i : ℕ) → Mem x (set xs i y) → (x ≡ y) ⊎ Mem x xs
  mem-set x y [] i m = inr m
  mem-set x y (z ∷ zs) zero (inl e) = inl e
  mem-set x y (z ∷ zs) zero (inr m) = inr (inr m)
  mem-set x y (z ∷ zs) (suc i) (inl e) = inr (inl e)
  mem-set x y (z ∷ zs) (suc i) (inr m) = search (rules, mem-set x y zs i m)

  pub empty-is : (xs : List A) → is_empty xs ≡ true → xs ≡ []
  empty-is xs e = search rules

-- A list without one of its members.
remove : (n : ℕ) (xs : List ℕ) → Mem n xs → (ys : List ℕ) × (length xs ≡ suc (length ys)) × ((x : ℕ) → Mem x xs → (x ≡ n → ⊥) → Mem x ys)
remove n [] m = absurd m
remove n (x ∷ xs) (inl e) = (xs, refl, λ y my ne. search rules)
remove n (x ∷ xs) (inr m) = let r = remove n xs m in (x ∷ r.0, ap suc r.1, λ y my ne. search (rules, r.2))

-- What stands without repetition in another list is no longer.
within-length : (xs ys : List ℕ) → Distinct xs → ((x : ℕ) → Mem x xs → Mem x ys) → length xs ≤ length ys
within-length [] ys dx f = omega arith
within-length (x ∷ xs) ys dx f =
    let r = remove x ys (f x (inl refl)) in
    let less : length xs ≤ length r.0 = within-length xs r.0 dx.1 (λ y m. r.2 y (f y (inr m)) (search rules)) in
    omega (arith, r.1)

-- The k numbers from n on.
pub range-only : (n k x : ℕ) → Mem x (range_with_len n k) → (n ≤ x) × (x < n + k)
range-only n zero x m = absurd m
range-only n (suc k) x (inl e) = search rules
range-only n (suc k) x (inr m) = search (rules, range-only (n + 1) k x m)

pub range_all : (n k x : ℕ) → n ≤ x → x < n + k → Mem x (range_with_len n k)
range_all n zero x l b = search rules
range_all n (suc k) x l b = elim (cases_eq x n) [ inl e ↦ inl e | inr ne ↦ inr (range_all (n + 1) k x (omega arith) (omega arith)) ]

pub range-distinct : (n k : ℕ) → Distinct (range_with_len n k)
range-distinct n zero = tt
range-distinct n (suc k) = (λ m. let h : n + 1 ≤ n = (range-only (n + 1) k n m).0 in search rules, range-distinct (n + 1) k)

-- Numbers below k, without repetition, are at most k.
pub few-below : (k : ℕ) (xs : List ℕ) → Distinct xs → ((x : ℕ) → Mem x xs → x < k) → length xs ≤ k
few-below k xs d f =
    let h = within-length xs (range_with_len 0 k) d (λ x m. range_all 0 k x (omega arith) (omega (arith, f x m))) in
    omega (arith, length-range_with_len 0 k)

-- A list that holds every number below k has at least k members.
pub all-below : (k : ℕ) (xs : List ℕ) → ((x : ℕ) → x < k → Mem x xs) → k ≤ length xs
all-below k xs f =
    let h = within-length (range_with_len 0 k) xs (range-distinct 0 k) (λ x m. let b = (range-only 0 k x m).1 in f x (omega arith)) in
    omega (arith, length-range_with_len 0 k)
