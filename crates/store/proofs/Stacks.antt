-- Reading the waiting stack after a push and a pop.
use Rattle.std.proofs.Common.{◌≡◌, ℕ, zero, suc, ◌+◌, ◌<◌, ◌≤◌, ltb, ◌≢◌, List, ◌∷◌, length, get_or, set, sym, refl, ap, ◌∙◌, add-one, arith, get_or-set_other, get_or-set_same}
use Rattle.std.proofs.lemmas.Bool.{lt-ltb, le-ltb, cond-true, cond-false}
use Rattle.collector.specs.Turns.{pushed}
use Rattle.store.specs.Stacks.{backwards}

pub backwards-length : (n : ℕ) (ms : List ℕ) → length (backwards n ms) ≡ n
backwards-length zero ms = refl
backwards-length (suc n) ms = ap suc (backwards-length n ms)

backwards-set : (n k v : ℕ) (ms : List ℕ) → n ≤ k → backwards n (set ms k v) ≡ backwards n ms
backwards-set zero k v ms l = refl
backwards-set (suc n) k v ms l =
    let ne : n ≢ k = omega arith in
    let e : get_or (set ms k v) n 0 ≡ get_or ms n 0 = rw get_or-set_other in
    ap (λ (x : ℕ). x ∷ backwards n (set ms k v)) e ∙ ap (λ (xs : List ℕ). get_or ms n 0 ∷ xs) (backwards-set n k v ms (omega arith))

pub backwards-push : (n v : ℕ) (ms : List ℕ) → n < length ms → n < 4096 → backwards (n + 1) (set ms n v) ≡ pushed v (backwards n ms)
backwards-push n v ms l b =
    let e : get_or (set ms n v) n 0 ≡ v = rw get_or-set_same in
    let len : length (backwards n ms) ≡ n = backwards-length n ms in
    ap (λ (k : ℕ). backwards k (set ms n v)) (add-one n)
    ∙ ap (λ (x : ℕ). x ∷ backwards n (set ms n v)) e
    ∙ ap (λ (xs : List ℕ). v ∷ xs) (backwards-set n n v ms (omega arith))
    ∙ sym (cond-true (ltb (length (backwards n ms)) 4096) (v ∷ backwards n ms) (backwards n ms) (lt-ltb (length (backwards n ms)) 4096 (omega arith)))

pub backwards-full : (n v : ℕ) (ms : List ℕ) → 4096 ≤ n → backwards n ms ≡ pushed v (backwards n ms)
backwards-full n v ms l =
    let len : length (backwards n ms) ≡ n = backwards-length n ms in
    sym (cond-false (ltb (length (backwards n ms)) 4096) (v ∷ backwards n ms) (backwards n ms) (le-ltb (length (backwards n ms)) 4096 (omega arith)))
