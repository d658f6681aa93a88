-- Scans, one after another.
use Rattle.std.proofs.Common.{◌≡◌, ℕ, zero, suc, ◌+◌, ◌-◌, ◌<◌, ◌≤◌, List, [], ◌∷◌, length, refl, ap, sym, ◌∙◌, arith, length-append}
use Rattle.collector.specs.States.{Heap}
use Rattle.collector.specs.Turns.{scan, scans, scanned, latest}

-- What a loop of k steps has left after i of them: one step and the rest.
pub left : (k i : ℕ) → i < k → k - i ≡ suc (k - (i + 1))
left k i l = omega arith

pub scans-more : (g h : Heap) (k i : ℕ) → i < k → h ≡ scan g → scans (k - (i + 1)) h ≡ scans (k - i) g
scans-more g h k i l e = ap (scans (k - (i + 1))) e ∙ sym (ap (λ (j : ℕ). scans j g) (left k i l))

pub scanned-more : (g h : Heap) (k i p r : ℕ) → i < k → h ≡ scan g → r ≡ length (latest g.stack)
    → p + r + length (scanned (k - (i + 1)) h) ≡ p + length (scanned (k - i) g)
scanned-more g h k i p r l e q =
    let both = ap (λ (j : ℕ). length (scanned j g)) (left k i l) ∙ length-append (latest g.stack) (scanned (k - (i + 1)) (scan g)) in
    let rest = ap (λ (x : Heap). length (scanned (k - (i + 1)) x)) e in
    omega arith

pub latest-few : (stack : List ℕ) → length (latest stack) ≤ 1
latest-few [] = omega arith
latest-few (n ∷ stack) = omega arith

-- Where no cell waits, no scan does anything.
pub scans_none : (k : ℕ) (h : Heap) → h.stack ≡ [] → scans k h ≡ h
scans_none zero h e = refl
scans_none (suc k) h e =
    let one : scan h ≡ h = rw e refl in
    ap (scans k) one ∙ scans_none k h e

pub scanned_none : (k : ℕ) (h : Heap) → h.stack ≡ [] → length (scanned k h) ≡ 0
scanned_none zero h e = refl
scanned_none (suc k) h e =
    let one : scan h ≡ h = rw e refl in
    let rest = scanned_none k h e in
    let both = length-append (latest h.stack) (scanned k (scan h)) in
    let same = ap (λ (x : Heap). length (scanned k x)) one in
    let none : length (latest h.stack) ≡ 0 = rw e refl in
    omega arith

-- What a share of scans uses.
pub ruleset of_scanning = (scans_none, scanned_none)
