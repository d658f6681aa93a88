-- The numbers of a line, one after another.
use Rattle.std.proofs.Common.{◌≡◌, ℕ, zero, suc, ◌<◌, ◌≤◌, List, [], ◌∷◌, ◌++◌, length, replicate, decimal, sym, refl, ap, ◌∙◌, subst, arith}
use Rattle.std.proofs.lemmas.Fmt.{decimal_nonempty}
use Rattle.std.proofs.lemmas.List.{append_assoc, length-append, length-replicate}
use Rattle.plan.specs.Lines.{numbers_text, Small}
use Rattle.plan.specs.Readings.{Begins, Halts, Stuck}
use Rattle.plan.specs.Parts.{after, Numbers, NumberAt, NumbersAt, mark, Digit, NoDigit}
use Rattle.std.specs.List.{AllByRecursion as All}
use Rattle.plan.proofs.Lists.{Parts, heads, tails, tokens, goes_on}
use Rattle.plan.proofs.Decimals.{digits, takes-more}
use Rattle.plan.proofs.Texts.{Rest, stuck-on}

-- what comes after a number begins with the byte that ends it
pub marked : (ns : List ℕ) → numbers_text ns ≡ mark (length ns) ∷ after ns
marked [] = refl
marked (n ∷ ns) = refl

-- that byte is no digit
pub parted : (ns : List ℕ) → Parts Digit (numbers_text ns)
parted [] = λ h. omega arith
parted (n ∷ ns) = λ h. omega arith

pub marks : (ns : List ℕ) → 0 < length (numbers_text ns)
marks [] = omega arith
marks (n ∷ ns) = omega arith

pub zeros : (count : ℕ) → Small (replicate count 0)
zeros zero = tt
zeros (suc count) = (omega arith, zeros count)

-- a number, and what may come after it and the byte that ends it
number-rest : (n left : ℕ) → n ≤ 99999 → Rest (Numbers (suc left)) (decimal n ++ (mark left ∷ [])) (Numbers left)
number-rest n left small = record { onto = onto; back = back } where
  onto : (t : List ℕ) → Numbers left t → Numbers (suc left) ((decimal n ++ (mark left ∷ [])) ++ t)
  onto t (ns, e, s, w) = (
    n ∷ ns,
    ap (λ (k : ℕ). suc k) e,
    (small, s),
    cc (append_assoc (decimal n) (mark left ∷ []) t, w, e, marked ns),
  )

  back : (t : List ℕ) → Numbers (suc left) ((decimal n ++ (mark left ∷ [])) ++ t) → Numbers left t
  back t ([], e, s, w) = absurd (omega arith)
  back t (m ∷ ns, e, s, w) =
      let p : decimal n ++ (mark left ∷ t) ≡ decimal m ++ numbers_text ns = sym (append_assoc (decimal n) (mark left ∷ []) t) ∙ w in
      let q = tokens Digit (decimal n) (decimal m) (mark left ∷ t) (numbers_text ns) (digits n small) (digits m s.0) (no-mark left) (parted ns) p in
      let k : length ns ≡ left = omega arith in
      (ns, k, s.1, tails (q.1 ∙ marked ns)) where
        no-mark : (k : ℕ) → Parts Digit (mark k ∷ t)
        no-mark zero = λ h. omega arith
        no-mark (suc k) = λ h. omega arith

begins-none : (left : ℕ) → Begins (Numbers (suc left)) []
begins-none left = (
  decimal 0 ++ numbers_text (replicate left 0),
  omega (arith, length-append (decimal 0) (numbers_text (replicate left 0)), marks (replicate left 0)),
  (0 ∷ replicate left 0, ap (λ (k : ℕ). suc k) (length-replicate left 0), (omega arith, zeros left), refl),
)

begins-at : (n left : ℕ) → n ≤ 99999 → Begins (Numbers (suc left)) (decimal n)
begins-at n left small = (
  numbers_text (replicate left 0),
  marks (replicate left 0),
  (n ∷ replicate left 0, ap (λ (k : ℕ). suc k) (length-replicate left 0), (small, zeros left), refl),
)

first-digit : (ds u : List ℕ) (b : ℕ) (more : List ℕ) → 0 < length ds → All Digit ds → b ∷ more ≡ ds ++ u → Digit b
first-digit [] u b more l a e = absurd (omega arith)
first-digit (d ∷ ds) u b more l a e = subst Digit (sym (heads e)) a.0

halts-none : (left : ℕ) (t : List ℕ) → NoDigit t → Halts (Numbers (suc left)) [] t
halts-none left [] h = tt
halts-none left (b ∷ t) h = no where
  no : (more : List ℕ) → Numbers (suc left) (b ∷ more) → ⊥
  no more ([], e, s, w) = omega arith
  no more (n ∷ ns, e, s, w) = h (first-digit (decimal n) (numbers_text ns) b more (decimal_nonempty n (let q = s.0 in omega arith)) (digits n s.0) w)

-- a number takes no digit of this text
abbrev pub Full : ℕ → List ℕ → Type 0
Full n [] = Unit {0}
Full n (b ∷ t) = Digit b → 0 < n → n < 10000 → ⊥

pub full-number : (n : ℕ) (t : List ℕ) → (0 < n → n < 10000 → ⊥) → Full n t
full-number n [] h = tt
full-number n (b ∷ t) h = λ d. h

pub full-none : (n : ℕ) (t : List ℕ) → NoDigit t → Full n t
full-none n [] h = tt
full-none n (b ∷ t) h = λ d p q. h d

halts_end : (n left : ℕ) (t : List ℕ) → n ≤ 99999 → Full n t → ((u : List ℕ) → t ≡ mark left ∷ u → ⊥) → Halts (Numbers (suc left)) (decimal n) t
halts_end n left [] small h ne = tt
halts_end n left (b ∷ t) small h ne = no where
  other : (Digit b → ⊥) → (more : List ℕ) → Numbers (suc left) (decimal n ++ (b ∷ more)) → ⊥
  other nd more ([], e, s, w) = omega arith
  other nd more (m ∷ ns, e, s, w) =
      let q = tokens Digit (decimal n) (decimal m) (b ∷ more) (numbers_text ns) (digits n small) (digits m s.0) nd (parted ns) w in
      let k : length ns ≡ left = omega arith in
      ne t (ap (λ (c : ℕ). c ∷ t) (heads (q.1 ∙ marked ns) ∙ ap mark k))

  no : (more : List ℕ) → Numbers (suc left) (decimal n ++ (b ∷ more)) → ⊥
  no more w = other (λ d. digit d more w) more w where
    digit : Digit b → (more : List ℕ) → Numbers (suc left) (decimal n ++ (b ∷ more)) → ⊥
    digit d more ([], e, s, w) = omega arith
    digit d more (m ∷ ns, e, s, w) =
        let g = goes_on Digit (decimal m) (decimal n) (numbers_text ns) b more (digits n small) d (parted ns) (sym w) in
        let k = takes-more m n b g.0 s.0 small g.1 in
        h d k.0 k.1

pub stuck-none : (left : ℕ) (text : List ℕ) → NoDigit text → Stuck (Numbers (suc left)) text text
stuck-none left text nd = record { front = []; cut = refl; begins = begins-none left; halts = halts-none left text nd }

pub stuck-end : (left n : ℕ) (text t : List ℕ) → text ≡ decimal n ++ t → n ≤ 99999 → Full n t → ((u : List ℕ) → t ≡ mark left ∷ u → ⊥) → Stuck (Numbers (suc left)) text t
stuck-end left n text t e small full ne =
    record { front = decimal n; cut = e; begins = begins-at n left small; halts = halts_end n left t small full ne }

-- these numbers are read of so many: what is left is read or fails as the rest of them
pub record Read (count left : ℕ) (ns text mid : List ℕ) : Type 0 where
  pub reads : (ms rest : List ℕ) → NumbersAt left mid ms rest → NumbersAt count text (ns ++ ms) rest
  pub fails : (rest : List ℕ) → Stuck (Numbers left) mid rest → Stuck (Numbers count) text rest

pub read_more : {count left n : ℕ} {ns text mid next : List ℕ} → Read count (suc left) ns text mid → NumberAt left mid n next → Read count left (ns ++ (n ∷ [])) text next
read_more {count} {left} {n} {ns} {text} {mid} {next} r h =
    let e = h.cut ∙ sym (append_assoc (decimal n) (mark left ∷ []) next) in
    record {
      reads = λ ms rest w.
          subst (λ (l : List ℕ). NumbersAt count text l rest) (sym (append_assoc ns (n ∷ []) ms))
          (r.reads (n ∷ ms) rest
          (record {
            counted = ap (λ (k : ℕ). suc k) w.counted;
            small = (h.small, w.small);
            cut = cc (h.cut, w.cut, w.counted, marked ms, append_assoc (decimal n) (numbers_text ms) rest);
          }));
      fails = λ rest s. r.fails rest (stuck-on (number-rest n left h.small) e s);
    }

pub read_all : {count : ℕ} {ns text mid : List ℕ} → Read count 0 ns text mid → NumbersAt count text (ns ++ []) mid
read_all {mid = mid} r = r.reads [] mid (record { counted = refl; small = tt; cut = refl })
