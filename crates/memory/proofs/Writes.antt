-- A memory of any elements, when it is cleared, read and changed.
use Rattle.std.proofs.Common.{◌≡◌, ℕ, ◌<◌, min, true, List, ◌++◌, map, length, take, drop, get_or, set, replicate, Ok, Err, if◌then◌else◌, nat_lt, sym, ap, ◌∙◌, subst, arith}
use Rattle.std.proofs.lemmas.Grind.{common_steps}
use Rattle.std.proofs.lemmas.Bool.{lt-ltb}
use lib.LanesLaws.{map-replicate}
use Rattle.std.proofs.lemmas.List.{length-map, length-set, map-set, get_or-map}
use Rattle.bank.specs.declared.word.Cell.{Cell}
use Rattle.bank.specs.declared.word.Change.{Change}
use Rattle.bank.specs.declared.word.Word.{Word}
use Rattle.bank.specs.declared.fault.BankFault.{BankFault}
use Rattle.bank.specs.Words.{blank, word_in, with_change}
use Rattle.bank.specs.Banks.{fits, asked, writable, change_taken, change_put, merged, cell_put}
use Rattle.bank.proofs.Laws.{on_cell-here, writable-ok, put-here, put_refused}
use Rattle.memory.specs.Memories.{front, later, cleared, shown, stored, Packed}
use Rattle.memory.specs.Elements.{fitted}
use Rattle.memory.proofs.Fronts.{length_front, within-front, front-set, set-over, get_or-front, later-set, front-cleared, later-cleared, filled}

module _ {X : Type 0} (shows : X → Cell) (m : List X) where
  length-shown : length (shown shows m) ≡ length (front m)
  unfolding shown
  length-shown = length-map (front m) shows

  pub shown_length : length (shown shows m) ≡ min (length m) 4096
  shown_length = length-shown ∙ length_front m

  get_or-shown : (n : ℕ) (d : X) → n < length (front m) → shows (get_or m n d) ≡ get_or (shown shows m) n blank
  unfolding shown
  get_or-shown n d h = ap shows (get_or-front m n d h) ∙ sym (get_or-map shows (front m) n d blank h)

  -- An element of a bank is the one that stores the cell that it shows.
  pub kept_shown : (stores : Cell → X) (n : ℕ) (d : X) → Packed shows stores m → n < length (shown shows m) → stores (shows (get_or m n d)) ≡ get_or m n d
  kept_shown stores n d is h =
      let l : n < length (front m) = rw length-shown at h in
      ap stores (get_or-shown n d l)
      ∙ sym (get_or-map stores (shown shows m) n blank d h)
      ∙ ap (λ l. get_or l n d) (sym is)
      ∙ sym (get_or-front m n d l)

  shown-set : (n : ℕ) (x : X) → shown shows (set m n x) ≡ set (shown shows m) n (shows x)
  unfolding shown
  shown-set n x = ap (map shows) (front-set m n x) ∙ map-set shows (front m) n x

  shown-cleared : (x : X) → shown shows (cleared x m) ≡ replicate (min 4096 (length m)) (shows x)
  unfolding shown
  shown-cleared x = ap (map shows) (front-cleared x m) ∙ map-replicate shows (min 4096 (length m)) x

  -- A cell that is shown is in the memory.
  pub within_shown : (n : ℕ) → n < length (shown shows m) → n < length m
  within_shown n h = within-front m n (rw length-shown at h)

  -- What a bank answers that reads its element.
  pub asked_shown : (n : ℕ) (d : X) (c : Cell) → n < length (shown shows m) → c ≡ shows (get_or m n d) → Ok c ≡ asked (shown shows m) n
  asked_shown n d c h is = ap Ok (is ∙ get_or-shown n d (rw length-shown at h)) ∙ sym (on_cell-here (shown shows m) n _ h)

  -- A cell that a word may be put into.
  pub may_write : (limit n : ℕ) (w : Word) (c : Cell) → Ok c ≡ writable limit (shown shows m) n w → n < length m
  may_write limit n w c e = within_shown n (writable-ok limit (shown shows m) n w c e).0

  pub may_keep : (stores : Cell → X) (limit n : ℕ) (w : Word) (c : Cell) (d : X) → Packed shows stores m → Ok c ≡ writable limit (shown shows m) n w → stores (shows (get_or m n d)) ≡ get_or m n d
  may_keep stores limit n w c d is e = kept_shown stores n d is (writable-ok limit (shown shows m) n w c e).0

  pub may_fit : (limit n : ℕ) (w : Word) (d : Change) (c : Cell) → w ≡ word_in d → Ok c ≡ writable limit (shown shows m) n w → fits limit (word_in d) ≡ true
  may_fit limit n w d c is e = rw is at (writable-ok limit (shown shows m) n w c e).1

  -- No later element is written.
  pub whole_later : (n : ℕ) (x : X) → n < length (shown shows m) → later (set m n x) ≡ later m
  whole_later n x h = later-set m n x (rw length-shown at h)

  pub change_later : (limit n : ℕ) (w : Word) (c : Cell) (x : X) → Ok c ≡ writable limit (shown shows m) n w → later (set m n x) ≡ later m
  change_later limit n w c x e = whole_later n x (writable-ok limit (shown shows m) n w c e).0

module _ {X : Type 0} (shows : X → Cell) (stores : Cell → X) (m : List X) (c : Cell) (back : shows (stores c) ≡ c) where
  packed-set : (n : ℕ) → Packed shows stores m → Packed shows stores (set m n (stores c))
  packed-set n is =
      front-set m n (stores c)
      ∙ ap (λ l. set l n (stores c)) is
      ∙ sym (map-set stores (shown shows m) n c)
      ∙ ap (λ d. map stores (set (shown shows m) n d)) (sym back)
      ∙ ap (map stores) (sym (shown-set shows m n (stores c)))

  packed-cleared : Packed shows stores (cleared (stores c) m)
  packed-cleared =
      front-cleared (stores c) m
      ∙ sym (map-replicate stores (min 4096 (length m)) c)
      ∙ ap (λ d. map stores (replicate (min 4096 (length m)) d)) (sym back)
      ∙ ap (map stores) (sym (shown-cleared shows m (stores c)))

-- The front filled with x, and the rest as it was.
module _ {X : Type 0} (m part : List X) (n : ℕ) (x : X) (least : n ≡ min (length m) 4096) (is : part ≡ replicate (length (take n m)) x) (stores : Cell → X) (stored_as : x ≡ stores blank) where
  pub filled_made : part ++ drop n m ≡ cleared (stores blank) m
  filled_made = filled m part n x least is ∙ ap (λ y. cleared y m) stored_as

  pub filled_packed : (shows : X → Cell) → shows x ≡ blank → Packed shows stores (part ++ drop n m)
  filled_packed shows back = subst (Packed shows stores) (sym filled_made) (packed-cleared shows stores m blank (ap shows (sym stored_as) ∙ back))

pub filled_later : {X : Type 0} (m part : List X) (n : ℕ) (x : X) → n ≡ min (length m) 4096 → part ≡ replicate (length (take n m)) x → later (part ++ drop n m) ≡ later m
filled_later m part n x least is = ap later (filled m part n x least is) ∙ later-cleared x m

pub filled_empty : {X : Type 0} (shows : X → Cell) (m part : List X) (n : ℕ) (x : X) → n ≡ min (length m) 4096 → part ≡ replicate (length (take n m)) x → shows x ≡ blank → shown shows (part ++ drop n m) ≡ replicate (min 4096 (length m)) blank
filled_empty shows m part n x least is back = ap (shown shows) (filled m part n x least is) ∙ shown-cleared shows m x ∙ ap (replicate (min 4096 (length m))) back

pub ruleset of_clearing = (filled_made, filled_packed, filled_later, filled_empty)

-- A bank that changes cell n, where it may, to the element x.
module _ {X : Type 0} (shows : X → Cell) (limit : ℕ) (m : List X) (n : ℕ) (w : Word) (d : Change) (c : Cell) (x y : X) (is : w ≡ word_in d) (may : Ok c ≡ writable limit (shown shows m) n w) (back : shows x ≡ with_change d (shows (get_or m n y))) where
  here : n < length (front m)
  here = rw (length-shown shows m) at (writable-ok limit (shown shows m) n w c may).0

  read : with_change d (shows (get_or m n y)) ≡ with_change d (get_or (shown shows m) n blank)
  read = ap (with_change d) (get_or-shown shows m n y here)

  pub change_after : shown shows (set m n x) ≡ change_put limit (shown shows m) n d
  change_after =
      shown-set shows m n x
      ∙ ap (set (shown shows m) n) (back ∙ read)
      ∙ sym (put-here (λ _. with_change d) limit (shown shows m) n (word_in d) (may_fit shows m limit n w d c is may))

  pub change_stored : (stores : Cell → X) → x ≡ stores (with_change d (shows (get_or m n y))) → set m n x ≡ stored (stores (with_change d (get_or (shown shows m) n blank))) m n
  change_stored stores value = ap (set m n) (value ∙ ap stores read) ∙ set-over m n _ here

  pub change_packed : (stores : Cell → X) → x ≡ stores (with_change d (shows (get_or m n y))) → Packed shows stores m → Packed shows stores (set m n x)
  change_packed stores value was =
      let new = value ∙ ap stores read in
      rw (sym new) at (packed-set shows stores m _ (ap shows (sym new) ∙ back ∙ read) n was)

-- Three changes of a cell, each where its word fits, lay another over it.
fitted-merged : (limit : ℕ) (c x : Cell) → fitted limit (Change.Mark c.mark) (fitted limit (Change.Cdr c.cdr) (fitted limit (Change.Car c.car) x)) ≡ merged limit c x
fitted-merged limit c x = grind (arith, common_steps)

-- A bank that puts a whole cell: the element x is what the three changes make of that of cell n.
module _ {X : Type 0} (shows : X → Cell) (m : List X) (n : ℕ) where
  whole_shown : (limit : ℕ) (c : Cell) (x y z d : X) → n < length (shown shows m)
      → shows y ≡ fitted limit (Change.Car c.car) (shows (get_or m n d)) → shows z ≡ fitted limit (Change.Cdr c.cdr) (shows y) → shows x ≡ fitted limit (Change.Mark c.mark) (shows z)
      → shows x ≡ merged limit c (get_or (shown shows m) n blank)
  whole_shown limit c x y z d here car cdr mark =
      let read = get_or-shown shows m n d (rw (length-shown shows m) at here) in
      mark
      ∙ ap (fitted limit (Change.Mark c.mark)) (cdr ∙ ap (fitted limit (Change.Cdr c.cdr)) (car ∙ ap (fitted limit (Change.Car c.car)) read))
      ∙ fitted-merged limit c (get_or (shown shows m) n blank)

  pub whole_after : (limit : ℕ) (c : Cell) (x y z d : X) → n < length (shown shows m)
      → shows y ≡ fitted limit (Change.Car c.car) (shows (get_or m n d)) → shows z ≡ fitted limit (Change.Cdr c.cdr) (shows y) → shows x ≡ fitted limit (Change.Mark c.mark) (shows z)
      → shown shows (set m n x) ≡ cell_put limit (shown shows m) n c
  whole_after limit c x y z d here car cdr mark = shown-set shows m n x ∙ ap (set (shown shows m) n) (whole_shown limit c x y z d here car cdr mark)

  pub whole_stored : (stores : Cell → X) (limit : ℕ) (c : Cell) (x y z d : X) → n < length (shown shows m) → stores (shows x) ≡ x
      → shows y ≡ fitted limit (Change.Car c.car) (shows (get_or m n d)) → shows z ≡ fitted limit (Change.Cdr c.cdr) (shows y) → shows x ≡ fitted limit (Change.Mark c.mark) (shows z)
      → set m n x ≡ (if nat_lt n (length (shown shows m)) then stored (stores (merged limit c (get_or (shown shows m) n blank))) m n else m)
  whole_stored stores limit c x y z d here kept car cdr mark =
      rw (lt-ltb n (length (shown shows m)) here, ← whole_shown limit c x y z d here car cdr mark, kept) (set-over m n x (rw (length-shown shows m) at here))

  pub whole_packed : (stores : Cell → X) (x : X) → stores (shows x) ≡ x → Packed shows stores m → Packed shows stores (set m n x)
  whole_packed stores x kept was = rw kept at (packed-set shows stores m (shows x) (ap shows kept) n was)

-- The size stays.
pub size_set : {X : Type 0} (m : List X) (n size : ℕ) (x : X) → size ≡ min 4096 (length m) → size ≡ min 4096 (length (set m n x))
size_set m n size x is = rw (length-set m n x) is

-- A bank that may not.
module _ (cells : List Cell) (limit n : ℕ) (w : Word) (d : Change) (fault : BankFault) (is : w ≡ word_in d) (refused : Err fault ≡ writable limit cells n w) where
  pub refused_answer : Err fault ≡ change_taken limit cells n d
  refused_answer = (put_refused (λ _. with_change d) limit cells n (word_in d) fault (rw is at refused)).0

  pub refused_after : cells ≡ change_put limit cells n d
  refused_after = (put_refused (λ _. with_change d) limit cells n (word_in d) fault (rw is at refused)).1

-- What the methods of a bank use.
pub ruleset of_memory = (shown_length, within_shown, asked_shown, may_write, may_fit, may_keep, kept_shown, change_after, change_stored, change_packed, change_later, whole_later, whole_after, whole_stored, whole_packed, size_set, refused_answer, refused_after)
