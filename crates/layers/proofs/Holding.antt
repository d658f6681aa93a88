-- What is seen through a hold, and that writing a place below changes nothing of it.
use Rattle.std.proofs.Common.{◌≡◌, ℕ, zero, suc, ◌+◌, ◌/◌, ◌%◌, ◌<◌, true, ◌≢◌, Option, None, Some, Ok, Err, if◌then◌else◌, nat_lt, List, [], ◌∷◌, length, get_or, set, replicate, sym, refl, ap, ◌∙◌, inl, inr, zero-add, arith}
use Rattle.std.proofs.lemmas.Grind.{common_steps, get_or-set_at}
use Rattle.std.proofs.lemmas.List.{length-set, get_or-set_same, get_or-set_other, get_or-replicate, ext_get_or}
use Rattle.std.proofs.lemmas.Bool.{eq-eqb, ne_eqb, cases_eq, lt-ltb, le-ltb}
use Rattle.bank.specs.declared.word.Word.{Word}
use Rattle.bank.specs.declared.word.Cell.{Cell}
use Rattle.bank.specs.declared.word.Change.{Change}
use Rattle.bank.specs.declared.fault.BankFault.{BankFault}
use Rattle.bank.specs.Words.{blank, word_in, with_change}
use Rattle.bank.specs.Banks.{fits, fitted, merged, asked}
use Rattle.bank.proofs.Laws.{asked-ok, on_cell-refused}
use Rattle.layers.specs.declared.places.Kept.{Kept}
use Rattle.layers.specs.Holds.{none_kept, kept_for, seen_at, seen, held_from, held, spilled, evicted, length-held}

-- Cell by cell.
get_or-from : (limit : ℕ) (places : List (Option Kept)) (k : ℕ) (below : List Cell) (n m : ℕ) → n < length below → m ≡ k + n → get_or (held_from limit places k below) n blank ≡ seen limit places m (get_or below n blank)
get_or-from limit places k [] n m h e = let no : ⊥ = omega arith in absurd no
get_or-from limit places k (x ∷ xs) zero m h e = let same : k ≡ m = omega arith in ap (λ j. seen limit places j x) same
get_or-from limit places k (x ∷ xs) (suc n) m h e = get_or-from limit places (suc k) xs n m (omega arith) (omega arith)

pub get_or-held : (limit : ℕ) (places : List (Option Kept)) (below : List Cell) (n : ℕ) → n < length below → get_or (held limit places below) n blank ≡ seen limit places n (get_or below n blank)
unfolding held
get_or-held limit places below n h = get_or-from limit places 0 below n n h (sym (zero-add n))

same-held : (limit : ℕ) (places : List (Option Kept)) (below cells : List Cell) → length cells ≡ length below → ((n : ℕ) → n < length below → seen limit places n (get_or below n blank) ≡ get_or cells n blank) → held limit places below ≡ cells
same-held limit places below cells long each =
    ext_get_or blank (held limit places below) cells (length-held limit places below ∙ sym long)
    (λ n h. let l : n < length below = omega (arith, length-held limit places below) in get_or-held limit places below n l ∙ each n l)

-- Nothing kept.
pub held_none : (limit : ℕ) (below : List Cell) → held limit none_kept below ≡ below
unfolding none_kept
held_none limit below =
    same-held limit none_kept below below refl
    (λ n h. let l : n % 16 < 16 = omega arith in ap (λ p. seen_at limit p n (get_or below n blank)) (get_or-replicate 16 (n % 16) None None l))

-- The cells below once a place is written to them.
length-spilled : (limit : ℕ) (p : Option Kept) (i : ℕ) (below : List Cell) → length (spilled limit p i below) ≡ length below
unfolding spilled
length-spilled limit None i below = refl
length-spilled limit (Some kept) i below = length-set below _ _

get_or-spilled-here : (limit : ℕ) (p : Option Kept) (below : List Cell) (m i : ℕ) → m < length below → m % 16 ≡ i → get_or (spilled limit p i below) m blank ≡ seen_at limit p m (get_or below m blank)
unfolding spilled
get_or-spilled-here limit None below m i h e = refl
get_or-spilled-here limit (Some kept) below m i h e = grind (arith, common_steps, get_or-set_at, get_or-set_other)

get_or-spilled-other : (limit : ℕ) (p : Option Kept) (below : List Cell) (m i : ℕ) → i < 16 → m % 16 ≢ i → get_or (spilled limit p i below) m blank ≡ get_or below m blank
unfolding spilled
get_or-spilled-other limit None below m i l ne = refl
get_or-spilled-other limit (Some kept) below m i l ne = grind (arith, common_steps, get_or-set_other)

-- The place of cell n written below and emptied: nothing else is seen.
pub spill-keeps : (limit : ℕ) (places : List (Option Kept)) (below : List Cell) (n : ℕ) → length places ≡ 16 → held limit (set places (n % 16) None) (spilled limit (get_or places (n % 16) None) (n % 16) below) ≡ held limit places below
spill-keeps limit places below n full =
    let i = n % 16 in
    let p = get_or places i None in
    let after = spilled limit p i below in
    let long : length after ≡ length below = length-spilled limit p i below in
    same-held limit (set places i None) after (held limit places below) (length-held limit places below ∙ sym long)
    (λ m h.
    let k : m < length below = omega (arith, long) in
    let shown = get_or-held limit places below m k in
    elim (cases_eq (m % 16) i) [
      | inl e ↦
          let here = get_or-spilled-here limit p below m i k e in
          let none = get_or-set_same places i None None (omega arith) in
          cc
      | inr ne ↦
          let other = get_or-spilled-other limit p below m i (omega arith) ne in
          let same = get_or-set_other places i (m % 16) None None ne in
          cc
    ])

-- The cells below once a cell of another number than n has left the place of n.
length-evicted : (limit : ℕ) (p : Option Kept) (n : ℕ) (below : List Cell) → length (evicted limit p n below) ≡ length below
unfolding evicted
length-evicted limit None n below = refl
length-evicted limit (Some kept) n below = grind (arith, common_steps, length-spilled)

get_or-evicted-at : (limit : ℕ) (p : Option Kept) (below : List Cell) (n : ℕ) → n < length below → get_or (evicted limit p n below) n blank ≡ get_or below n blank
unfolding evicted
get_or-evicted-at limit None below n h = refl
get_or-evicted-at limit (Some kept) below n h = grind (arith, common_steps, get_or-spilled-here)

get_or-evicted-here : (limit : ℕ) (p : Option Kept) (below : List Cell) (n m : ℕ) → m < length below → m % 16 ≡ n % 16 → m ≢ n → get_or (evicted limit p n below) m blank ≡ seen_at limit p m (get_or below m blank)
unfolding evicted
get_or-evicted-here limit None below n m h e apart = refl
get_or-evicted-here limit (Some kept) below n m h e apart = grind (arith, common_steps, get_or-spilled-here)

get_or-evicted-other : (limit : ℕ) (p : Option Kept) (below : List Cell) (n m : ℕ) → m % 16 ≢ n % 16 → get_or (evicted limit p n below) m blank ≡ get_or below m blank
unfolding evicted
get_or-evicted-other limit None below n m ne = refl
get_or-evicted-other limit (Some kept) below n m ne = grind (arith, common_steps, get_or-spilled-other)

-- A cell put into its place is seen there, and nothing else is.
pub keep-shows : (limit : ℕ) (places : List (Option Kept)) (below : List Cell) (n : ℕ) (c : Cell) → n < length below → length places ≡ 16 → merged limit c (get_or below n blank) ≡ c → held limit (set places (n % 16) (kept_for n c)) (evicted limit (get_or places (n % 16) None) n below) ≡ set (held limit places below) n c
keep-shows limit places below n c h full whole =
    let p = get_or places (n % 16) None in
    let q = kept_for n c in
    let after = evicted limit p n below in
    let shown = held limit places below in
    let long : length after ≡ length below = length-evicted limit p n below in
    let wide : length shown ≡ length below = length-held limit places below in
    same-held limit (set places (n % 16) q) after (set shown n c) (length-set shown n c ∙ wide ∙ sym long)
    (λ m l.
    let k : m < length below = omega (arith, long) in
    elim (cases_eq m n) [
      | inl e ↦
          let put = get_or-set_same places (n % 16) q None (omega arith) in
          let at = get_or-evicted-at limit p below n h in
          let there = get_or-set_same shown n c blank (omega (arith, wide)) in
          let row = eq-eqb (n / 16) (n / 16) refl in
          cc
      | inr apart ↦
          let rest = get_or-set_other shown n m c blank apart in
          let now = get_or-held limit places below m k in
          elim (cases_eq (m % 16) (n % 16)) [
            | inl e ↦
                let put = get_or-set_same places (n % 16) q None (omega arith) in
                let here = get_or-evicted-here limit p below n m k e apart in
                let row = ne_eqb (n / 16) (m / 16) (λ r. apart (omega arith)) in
                cc
            | inr ne ↦
                let put = get_or-set_other places (n % 16) (m % 16) q None ne in
                let other = get_or-evicted-other limit p below n m ne in
                cc
          ]
    ])

-- A change whose word fits goes through what is laid over a cell.
through : (limit : ℕ) (change : Change) → fits limit (word_in change) ≡ true → (kept below : Cell) → merged limit (with_change change kept) below ≡ with_change change (merged limit kept below)
through limit (Change.Car w) t kept below = rw t
through limit (Change.Cdr w) t kept below = rw t
through limit (Change.Mark m) t kept below = refl

fitted-same : (limit : ℕ) (w : Word) → fitted limit w w ≡ w
fitted-same limit w = grind (arith, common_steps)

fitted-twice : (limit : ℕ) (kept below : Word) → fitted limit (fitted limit kept below) below ≡ fitted limit kept below
fitted-twice limit kept below = grind (arith, common_steps)

merged-same : (limit : ℕ) (c : Cell) → merged limit c c ≡ c
merged-same limit c = rw (fitted-same limit c.car, fitted-same limit c.cdr)

merged-twice : (limit : ℕ) (kept below : Cell) → merged limit (merged limit kept below) below ≡ merged limit kept below
merged-twice limit kept below = rw (fitted-twice limit kept.car below.car, fitted-twice limit kept.cdr below.cdr)

-- A cell laid over one that is whole over a third is whole over the third.
fitted-over : (limit : ℕ) (w kept below : Word) → fitted limit kept below ≡ kept → fitted limit (fitted limit w kept) below ≡ fitted limit w kept
fitted-over limit w kept below e = grind (arith, common_steps)

merged-over : (limit : ℕ) (c kept below : Cell) → merged limit kept below ≡ kept → merged limit (merged limit c kept) below ≡ merged limit c kept
merged-over limit c kept below e = rw (fitted-over limit c.car kept.car below.car (ap (λ (x : Cell). x.car) e), fitted-over limit c.cdr kept.cdr below.cdr (ap (λ (x : Cell). x.cdr) e))

merged-seen : (limit : ℕ) (p : Option Kept) (n : ℕ) (below : Cell) → merged limit (seen_at limit p n below) below ≡ seen_at limit p n below
merged-seen limit None n below = merged-same limit below
merged-seen limit (Some kept) n below = grind (arith, common_steps, merged-same limit below, merged-twice limit kept.cell below)

-- So what is seen of a cell, with a change made, may be kept whole.
pub may-keep : (limit : ℕ) (change : Change) (places : List (Option Kept)) (below : List Cell) (n : ℕ) (c : Cell) → fits limit (word_in change) ≡ true → n < length below → c ≡ get_or (held limit places below) n blank → merged limit (with_change change c) (get_or below n blank) ≡ with_change change c
may-keep limit change places below n c fit h is =
    let x = get_or below n blank in
    let through_it = through limit change fit c x in
    let shows = get_or-held limit places below n h in
    let whole = merged-seen limit (get_or places (n % 16) None) n x in
    cc

-- What is seen of a cell, with another laid over it, may be kept whole too.
pub may-lay : (limit : ℕ) (cell : Cell) (places : List (Option Kept)) (below : List Cell) (n : ℕ) (c : Cell) → n < length below → c ≡ get_or (held limit places below) n blank → merged limit (merged limit cell c) (get_or below n blank) ≡ merged limit cell c
may-lay limit cell places below n c h is =
    let x = get_or below n blank in
    let shows = get_or-held limit places below n h in
    let whole = merged-seen limit (get_or places (n % 16) None) n x in
    let same : merged limit c x ≡ c = cc in
    merged-over limit cell c x same

-- All places empty.
pub none_kept-all : (places : List (Option Kept)) → length places ≡ 16 → ((k : ℕ) → k < 16 → get_or places k None ≡ None) → places ≡ none_kept
unfolding none_kept
none_kept-all places full empty = ext_get_or None places (replicate 16 None) full (λ k h. let l : k < 16 = omega arith in empty k l ∙ sym (get_or-replicate 16 k None None l))

-- A whole cell put through a hold: c is seen of cell n, and d is the cell laid over it.
module _ (limit : ℕ) (places : List (Option Kept)) (below : List Cell) (n : ℕ) (c : Cell) (there : Ok c ≡ asked (held limit places below) n) where
  pub laid_here : n < length below
  laid_here = omega (arith, (asked-ok (held limit places below) n c there).0, length-held limit places below)

  pub laid_whole : (cell d : Cell) → d ≡ merged limit cell c → merged limit d (get_or below n blank) ≡ d
  laid_whole cell d is = rw is (may-lay limit cell places below n c laid_here (asked-ok (held limit places below) n c there).1)

  pub laid_kept : (cell d : Cell) (slots : List (Option Kept)) → d ≡ merged limit cell c → slots ≡ set places (n % 16) (kept_for n d)
      → slots ≡ (if nat_lt n (length below) then set places (n % 16) (kept_for n (merged limit cell (get_or (held limit places below) n blank))) else places)
  laid_kept cell d slots is e = rw (lt-ltb n (length below) laid_here, ← (asked-ok (held limit places below) n c there).1, ← is) e

  pub laid_below : (after : List Cell) → after ≡ evicted limit (get_or places (n % 16) None) n below → after ≡ (if nat_lt n (length below) then evicted limit (get_or places (n % 16) None) n below else below)
  laid_below after e = rw (lt-ltb n (length below) laid_here) e

-- And where there is no cell n.
pub unlaid : {A : Type 0} (limit : ℕ) (places : List (Option Kept)) (below : List Cell) (n : ℕ) (fault : BankFault) (x y : A) → Err fault ≡ asked (held limit places below) n → x ≡ (if nat_lt n (length below) then y else x)
unlaid limit places below n fault x y e =
    let past = (on_cell-refused (held limit places below) n (get_or (held limit places below) n blank) fault e).0 in
    rw (le-ltb n (length below) (omega (arith, past, length-held limit places below))) refl

-- What the write of a whole cell uses.
pub ruleset of_laying = (laid_here, laid_whole, laid_below, unlaid)

-- The cells seen are as many as those below.
pub ruleset of_size = (length-held)
