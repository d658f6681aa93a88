-- Sweeps, one after another.
use Rattle.std.proofs.Common.{◌≡◌, ℕ, zero, suc, ◌+◌, ◌-◌, ◌<◌, ◌≤◌, min, Bool, true, false, cond, ltb, List, length, get_or, set, Ok, Err, is_ok, sym, refl, ap, ap₂, ◌∙◌, arith}
use Rattle.std.proofs.lemmas.Grind.{common_steps}
use Rattle.std.proofs.lemmas.Bool.{ltb-true, ltb-false, both_ways}
use Rattle.std.proofs.lemmas.List.{get_or_default}
use Rattle.bank.specs.Words.{blank, with_car, with_cdr, with_mark}
use Rattle.bank.specs.Banks.{asked, changed, word_put, cell_put}
use Rattle.bank.specs.declared.fault.BankFault.{BankFault}
use Rattle.bank.specs.declared.word.Word.{Word}
use Rattle.bank.specs.declared.word.Cell.{Cell}
use Rattle.bank.proofs.Laws.{changed-changed, length-changed, length-put}
use Rattle.collector.specs.States.{at, dead}
use Rattle.collector.specs.Turns.{Ground, treat, is_reserved, advance, sweep, sweep_if, sweeps}
use Rattle.store.specs.Passing.{is_passed, free_run}
use Rattle.store.proofs.Scans.{left}

treat-sweeper : (m f : Bool) (limit n : ℕ) (g : Ground) → (treat m f limit n g).pool.sweeper ≡ g.pool.sweeper
treat-sweeper true f limit n g = refl
treat-sweeper false true limit n g = refl
treat-sweeper false false limit n g = refl

treat-length : (m f : Bool) (limit n : ℕ) (g : Ground) → length (treat m f limit n g).cells ≡ length g.cells
treat-length true f limit n g = length-changed (with_mark false) g.cells n
treat-length false true limit n g = refl
treat-length false false limit n g =
    length-put with_cdr limit (word_put with_car limit g.cells n g.pool.head) n Word.Reserved ∙ length-put with_car limit g.cells n g.pool.head

-- The sweeper further on.
abbrev pub forward : ℕ → Ground → Ground
forward r g = record {
  cells = g.cells;
  pool = record { head = g.pool.head; count = g.pool.count; sweeper = g.pool.sweeper + r };
}

forward-none : (g : Ground) → forward 0 g ≡ g
forward-none g =
    let e : g.pool.sweeper + 0 ≡ g.pool.sweeper = omega arith in
    ap (λ (n : ℕ). record { cells = g.cells; pool = record { head = g.pool.head; count = g.pool.count; sweeper = n } }) e

forward-more : (r : ℕ) (g : Ground) → forward r (advance g) ≡ forward (suc r) g
forward-more r g =
    let e : g.pool.sweeper + 1 + r ≡ g.pool.sweeper + suc r = omega arith in
    ap (λ (n : ℕ). record { cells = g.cells; pool = record { head = g.pool.head; count = g.pool.count; sweeper = n } }) e

-- A free cell is passed.
passed-by : (m f : Bool) (limit : ℕ) (g : Ground) → cond m false f ≡ true → advance (treat m f limit g.pool.sweeper g) ≡ advance g
passed-by true f limit g e = absurd (both_ways false refl e)
passed-by false true limit g e = refl
passed-by false false limit g e = absurd (both_ways false refl e)

run-none : (limit m t : ℕ) (g : Ground) → t ≡ 0 + m → sweeps limit t g ≡ sweeps limit m (forward 0 g)
run-none limit m t g all =
    let same : t ≡ m = omega arith in
    ap (λ (j : ℕ). sweeps limit j g) same ∙ ap (sweeps limit m) (sym (forward-none g))

-- A run of free cells is passed in one step.
run-if : (b p : Bool) (limit k m t : ℕ) (g : Ground) → ltb g.pool.sweeper (length g.cells) ≡ b → is_passed (at g.cells g.pool.sweeper) ≡ p
    → ((h : Ground) (u : ℕ) → u ≡ free_run h.cells h.pool.sweeper k + m → sweeps limit u h ≡ sweeps limit m (forward (free_run h.cells h.pool.sweeper k) h))
    → t ≡ cond b (cond p (suc (free_run g.cells (g.pool.sweeper + 1) k)) 0) 0 + m
    → sweeps limit t g ≡ sweeps limit m (forward (cond b (cond p (suc (free_run g.cells (g.pool.sweeper + 1) k)) 0) 0) g)
run-if false p limit k m t g e f rest all = run-none limit m t g all
run-if true false limit k m t g e f rest all = run-none limit m t g all
run-if true true limit k m t g e f rest all =
    let c : Cell = at g.cells g.pool.sweeper in
    let r : ℕ = free_run g.cells (g.pool.sweeper + 1) k in
    let one : sweep limit g ≡ advance g = ap (λ (b : Bool). sweep_if b limit g) e ∙ passed-by c.mark (is_reserved c.cdr) limit g f in
    let more : t ≡ suc (r + m) = omega arith in
    ap (λ (j : ℕ). sweeps limit j g) more ∙ ap (sweeps limit (r + m)) one ∙ rest (advance g) (r + m) refl ∙ ap (sweeps limit m) (forward-more r g)

run-sweeps : (limit k m t : ℕ) (g : Ground) → t ≡ free_run g.cells g.pool.sweeper k + m
    → sweeps limit t g ≡ sweeps limit m (forward (free_run g.cells g.pool.sweeper k) g)
run-sweeps limit zero m t g all = run-none limit m t g all
run-sweeps limit (suc k) m t g all =
    run-if (ltb g.pool.sweeper (length g.cells)) (is_passed (at g.cells g.pool.sweeper)) limit k m t g refl refl (λ h u. run-sweeps limit k m u h) all

run-few-if : (b p : Bool) (r k : ℕ) → r ≤ k → cond b (cond p (suc r) 0) 0 ≤ suc k
run-few-if false p r k l = omega arith
run-few-if true false r k l = omega arith
run-few-if true true r k l = omega arith

pub run-few : (cells : List Cell) (n k : ℕ) → free_run cells n k ≤ k
run-few cells n zero = omega arith
run-few cells n (suc k) =
    run-few-if (ltb n (length cells)) (is_passed (at cells n)) (free_run cells (n + 1) k) k (run-few cells (n + 1) k)

passes-if : (b : Bool) (cells : List Cell) (n k : ℕ) (c : Cell) → ltb n (length cells) ≡ b
    → cond b (Ok (get_or cells n blank)) (Err (BankFault.NoSuchCell n)) ≡ Ok c → is_passed c ≡ true
    → cond b (cond (is_passed (at cells n)) (suc (free_run cells (n + 1) k)) 0) 0 ≡ suc (free_run cells (n + 1) k)
passes-if true cells n k c e there passed =
    let same : at cells n ≡ get_or cells n blank = get_or_default cells n dead blank (ltb-true n (length cells) e) in
    let read : get_or cells n blank ≡ c = search there in
    let here : is_passed (at cells n) ≡ true = ap is_passed (same ∙ read) ∙ passed in
    ap (λ (p : Bool). cond p (suc (free_run cells (n + 1) k)) 0) here
passes-if false cells n k c e there passed = absurd (both_ways false refl (ap is_ok there))

passes-on : (cells : List Cell) (n k : ℕ) (c : Cell) → asked cells n ≡ Ok c → is_passed c ≡ true
    → free_run cells n (suc k) ≡ suc (free_run cells (n + 1) k)
passes-on cells n k c there passed = passes-if (ltb n (length cells)) cells n k c refl there passed

-- One more cell of a run.
pub run-more : (cells : List Cell) (n next most : ℕ) (c : Cell) → asked cells next ≡ Ok c → is_passed c ≡ true → n ≤ next → next < n + most
    → next - n + free_run cells next (most - (next - n)) ≡ free_run cells n most
    → next + 1 - n + free_run cells (next + 1) (most - (next + 1 - n)) ≡ free_run cells n most
run-more cells n next most c there passed from more rest =
    let run : ℕ = next - n in
    let one : next + 1 - n ≡ run + 1 = omega arith in
    let step : free_run cells next (most - run) ≡ suc (free_run cells (next + 1) (most - (run + 1))) =
    ap (free_run cells next) (left most run (omega arith)) ∙ passes-on cells next (most - (run + 1)) c there passed in
    rw one (omega arith)

-- A sweep past the last cell changes nothing.
past : (limit k : ℕ) (g : Ground) → ltb g.pool.sweeper (length g.cells) ≡ false → sweeps limit k g ≡ g
past limit zero g e = refl
past limit (suc k) g e = ap (sweeps limit k) (ap (λ (b : Bool). sweep_if b limit g) e) ∙ past limit k g e

sweep-left : (limit : ℕ) (g : Ground) → length (sweep_if true limit g).cells - (sweep_if true limit g).pool.sweeper ≡ length g.cells - (g.pool.sweeper + 1)
sweep-left limit g =
    let m : Bool = (at g.cells g.pool.sweeper).mark in
    let f : Bool = is_reserved (at g.cells g.pool.sweeper).cdr in
    let place = treat-sweeper m f limit g.pool.sweeper g in
    let len = treat-length m f limit g.pool.sweeper g in
    omega arith

left-any-if : (b : Bool) (limit : ℕ) (g : Ground) → length g.cells - (g.pool.sweeper + 1) ≤ length (sweep_if b limit g).cells - (sweep_if b limit g).pool.sweeper
left-any-if true limit g = let e = sweep-left limit g in omega arith
left-any-if false limit g = omega arith

sweep-left-any : (limit : ℕ) (g : Ground) → length g.cells - (g.pool.sweeper + 1) ≤ length (sweep limit g).cells - (sweep limit g).pool.sweeper
sweep-left-any limit g = left-any-if (ltb g.pool.sweeper (length g.cells)) limit g

-- No more sweeps count than there are cells left.
most-if : (b : Bool) (limit k : ℕ) (g : Ground) → ltb g.pool.sweeper (length g.cells) ≡ b
    → ((h : Ground) → sweeps limit (min k (length h.cells - h.pool.sweeper)) h ≡ sweeps limit k h)
    → sweeps limit (min (suc k) (length g.cells - g.pool.sweeper)) g ≡ sweeps limit (suc k) g
most-if false limit k g e rest =
    let b = ltb-false g.pool.sweeper (length g.cells) e in
    let none : min (suc k) (length g.cells - g.pool.sweeper) ≡ 0 = omega arith in
    ap (λ (j : ℕ). sweeps limit j g) none ∙ sym (past limit (suc k) g e)
most-if true limit k g e rest =
    let b = ltb-true g.pool.sweeper (length g.cells) e in
    let h : Ground = sweep limit g in
    let same : h ≡ sweep_if true limit g = ap (λ (b : Bool). sweep_if b limit g) e in
    let len = ap (λ (x : Ground). length x.cells - x.pool.sweeper) same ∙ sweep-left limit g in
    let one : min (suc k) (length g.cells - g.pool.sweeper) ≡ suc (min k (length h.cells - h.pool.sweeper)) = omega arith in
    ap (λ (j : ℕ). sweeps limit j g) one ∙ rest h

pub sweeps-most : (limit k : ℕ) (g : Ground) → sweeps limit (min k (length g.cells - g.pool.sweeper)) g ≡ sweeps limit k g
sweeps-most limit zero g =
    let none : min 0 (length g.cells - g.pool.sweeper) ≡ 0 = omega arith in
    ap (λ (j : ℕ). sweeps limit j g) none
sweeps-most limit (suc k) g = most-if (ltb g.pool.sweeper (length g.cells)) limit k g refl (sweeps-most limit k)

place-if : (b : Bool) (limit : ℕ) (g : Ground) → (sweep_if b limit g).pool.sweeper ≤ g.pool.sweeper + 1
place-if true limit g =
    let place = treat-sweeper (at g.cells g.pool.sweeper).mark (is_reserved (at g.cells g.pool.sweeper).cdr) limit g.pool.sweeper g in
    omega arith
place-if false limit g = omega arith

pub sweep-place : (limit : ℕ) (g h : Ground) → h ≡ sweep limit g → h.pool.sweeper ≤ g.pool.sweeper + 1
sweep-place limit g h e = rw e (place-if (ltb g.pool.sweeper (length g.cells)) limit g)

-- A cell is swept, and a run of free cells after it goes by where it was free.
run-after : (b : Bool) (limit j m : ℕ) (h : Ground) → j ≡ cond b (free_run h.cells h.pool.sweeper j) 0 + m
    → sweeps limit m (forward (cond b (free_run h.cells h.pool.sweeper j) 0) h) ≡ sweeps limit j h
run-after true limit j m h all = sym (run-sweeps limit j m j h all)
run-after false limit j m h all =
    let same : m ≡ j = omega arith in
    ap₂ (λ (i : ℕ) (x : Ground). sweeps limit i x) same (forward-none h)

pub after-few : (b : Bool) (cells : List Cell) (n k : ℕ) → cond b (free_run cells n k) 0 ≤ k
after-few true cells n k = run-few cells n k
after-few false cells n k = omega arith

pub sweeps-more : (limit limit' k r : ℕ) (b : Bool) (g h : Ground) → 0 < k → limit' ≡ limit → h ≡ sweep limit g
    → r ≡ cond b (free_run h.cells h.pool.sweeper (k - 1)) 0 → sweeps limit' (k - (r + 1)) (forward r h) ≡ sweeps limit k g
sweeps-more limit limit' k r b g h some same e run =
    let few = after-few b h.cells h.pool.sweeper (k - 1) in
    let all : k - 1 ≡ cond b (free_run h.cells h.pool.sweeper (k - 1)) 0 + (k - (r + 1)) = omega arith in
    let more : k ≡ suc (k - 1) = omega arith in
    ap₂ (λ (n i : ℕ). sweeps n (k - (r + 1)) (forward i h)) same run
    ∙ run-after b limit (k - 1) (k - (r + 1)) h all
    ∙ ap (sweeps limit (k - 1)) e
    ∙ sym (ap (λ (i : ℕ). sweeps limit i g) more)

pub left-after : (limit k r : ℕ) (g h : Ground) → 0 < k → k ≤ length g.cells - g.pool.sweeper → r ≤ k - 1 → h ≡ sweep limit g
    → k - (r + 1) ≤ length h.cells - (h.pool.sweeper + r)
left-after limit k r g h some fits few e =
    let one = sweep-left-any limit g in
    let len = ap (λ (x : Ground). length x.cells - x.pool.sweeper) e in
    omega arith

-- A cell without a mark, freed by one write or by one of each word.
unmarked : (cells : List Cell) (n : ℕ) (put : Cell → Cell) → (put (get_or cells n blank)).mark ≡ false → changed (λ c. with_mark false (put c)) cells n ≡ changed put cells n
unmarked cells n put e = ap (λ (m : Bool). set cells n (with_mark m (put (get_or cells n blank)))) (sym e)

pub freed_whole : (limit : ℕ) (cells : List Cell) (n : ℕ) (w : Word) → (get_or cells n blank).mark ≡ false
    → cell_put limit cells n (record { car = w; cdr = Word.Reserved; mark = false }) ≡ word_put with_cdr limit (word_put with_car limit cells n w) n Word.Reserved
freed_whole limit cells n w e =
    let car = with_car w in
    let cdr = with_cdr Word.Reserved in
    grind (arith, common_steps, changed-changed car cdr cells n, changed-changed (λ c. cdr (car c)) (with_mark false) cells n, changed-changed cdr (with_mark false) cells n, unmarked cells n (λ c. cdr (car c)) e, unmarked cells n cdr e)

-- What the release of a cell uses.
pub ruleset of_releasing = (freed_whole)
