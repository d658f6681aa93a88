-- The cells of a new store, one link after another.
use Rattle.std.proofs.Common.{◌≡◌, ℕ, zero, suc, ◌+◌, ◌-◌, ◌<◌, ◌≤◌, Bool, true, false, ◌≢◌, List, length, Ok, sym, ap, ◌∙◌, ap₂, arith, below_more}
use Rattle.std.proofs.lemmas.List.{ext_get_or}
use Rattle.std.proofs.lemmas.Bool.{le-leb}
use Rattle.bank.specs.Words.{number_of, with_car, with_cdr, with_mark}
use Rattle.bank.specs.Banks.{fits, taken, writable, changed, merged, cell_put}
use Rattle.bank.specs.declared.word.Word.{Word}
use Rattle.bank.specs.declared.word.Cell.{Cell}
use Rattle.bank.proofs.Laws.{changed-changed, length-changed, cell_put-whole, writable-ok, taken-told}
use Rattle.collector.specs.Calls.{filled}
use Rattle.collector.specs.States.{at, dead, first_word, linked}
use Rattle.collector.proofs.Cells.{changed-here, changed-other}
use Rattle.collector.proofs.Start.{linked-length}

-- A free cell that names the next one.
abbrev pub before : Word → Cell
before next = record { car = next; cdr = Word.Reserved; mark = false }

-- A free cell before k others, the first of them n.
abbrev pub free : ℕ → ℕ → Cell
free n k = before (first_word n k)

linked-at : (a k n : ℕ) → n < k → at (linked a k) n ≡ free (a + n + 1) (k - (n + 1))
linked-at a zero n l = absurd (let bad : ⊥ = omega arith in bad)
linked-at a (suc k) zero l =
    let q : suc a ≡ a + 0 + 1 = omega arith in
    let r : k ≡ suc k - (0 + 1) = omega arith in
    ap₂ free q r
linked-at a (suc k) (suc n) l =
    let q : suc a + n + 1 ≡ a + suc n + 1 = omega arith in
    let r : k - (n + 1) ≡ suc k - (suc n + 1) = omega arith in
    linked-at (suc a) k n (omega arith) ∙ ap₂ free q r

first_fits : (m k limit : ℕ) → (0 < k → m ≤ limit) → number_of (first_word m k) ≤ limit
first_fits m zero limit h = omega arith
first_fits m (suc k) limit h = h (omega arith)

pub link-more : (size n limit : ℕ) (cs ds : List Cell) (next : Word) → n < size → length cs ≡ size → size ≤ 4096 → 4095 ≤ limit → next ≡ first_word (n + 1) (size - (n + 1))
    → ds ≡ cell_put limit cs n (before next)
    → ((k : ℕ) → k < n → at cs k ≡ free (k + 1) (size - (k + 1))) → (k : ℕ) → k < n + 1 → at ds k ≡ free (k + 1) (size - (k + 1))
link-more size n limit cs ds next l len few wide e p earlier =
    let fit : number_of next ≤ limit = rw e (first_fits (n + 1) (size - (n + 1)) limit (λ h. omega arith)) in
    let within : n < length cs = omega arith in
    let q : ds ≡ changed (λ c. before next) cs n = p ∙ cell_put-whole limit cs n (before next) (le-leb (number_of next) limit fit) (le-leb 0 limit (omega arith)) in
    below_more (λ k. at ds k ≡ free (k + 1) (size - (k + 1))) n
    (λ k h. let ne : k ≢ n = omega arith in ap (λ (xs : List Cell). at xs k) q ∙ changed-other (λ c. before next) cs n k ne ∙ earlier k h)
    (ap (λ (xs : List Cell). at xs n) q ∙ changed-here (λ c. before next) cs n within ∙ ap before e)

pub link-length : (limit : ℕ) (cs ds : List Cell) (n : ℕ) (next : Word) → ds ≡ cell_put limit cs n (before next) → length ds ≡ length cs
link-length limit cs ds n next p = ap length p ∙ length-changed (merged limit (before next)) cs n

pub link-all : (size : ℕ) (cs : List Cell) → length cs ≡ size → ((k : ℕ) → k < size → at cs k ≡ free (k + 1) (size - (k + 1))) → cs ≡ linked 0 size
link-all size cs len h =
    ext_get_or dead cs (linked 0 size) (len ∙ sym (linked-length 0 size))
    (λ k l. let b : k < size = omega arith in let q : k + 1 ≡ 0 + k + 1 = omega arith in h k b ∙ ap (λ (m : ℕ). free m (size - (k + 1))) q ∙ sym (linked-at 0 size k b))

-- A cell put whole, where both words fit, is filled.
pub whole_filled : (limit k : ℕ) (cells after : List Cell) (h : ℕ) (a b : Word) (m : Bool) (c : Cell) → after ≡ cell_put limit cells h (record { car = a; cdr = b; mark = m })
    → Ok c ≡ writable limit cells h a → Ok (tt {0}) ≡ taken k b (Ok (tt {0})) → k ≡ limit → after ≡ filled limit cells h a b m
whole_filled limit k cells after h a b m c is may takes own =
    let first = (writable-ok limit cells h a c may).1 in
    let second : fits limit b ≡ true = rw own at (taken-told k b (tt {0}) (tt {0}) takes) in
    rw (first, second) (is ∙ cell_put-whole limit cells h (record { car = a; cdr = b; mark = m }) first second ∙ sym (changed-changed (λ x. with_cdr b (with_car a x)) (with_mark m) cells h) ∙ ap (λ (l : List Cell). changed (with_mark m) l h) (sym (changed-changed (with_car a) (with_cdr b) cells h)))

-- What filling a cell uses.
pub ruleset of_filling = (whole_filled)
