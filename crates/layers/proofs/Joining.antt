-- A write through a join.
use Rattle.std.proofs.Common.{◌≡◌, ℕ, ◌+◌, ◌-◌, ◌<◌, ◌≤◌, min, true, List, ◌++◌, length, get_or, take, drop, Ok, Result, sym, refl, ◌∙◌, arith}
use Rattle.std.proofs.lemmas.Grind.{common_steps}
use Rattle.std.proofs.lemmas.List.{length-take, length-append, length-set, get_or-take, get_or_append_left, get_or-append_right, set-append_left, set-append_right, drop-set-lt, take-append-drop}
use Rattle.std.proofs.Math.Seq.{take-set-lt}
use Rattle.std.proofs.lemmas.Bool.{leb-true, le-leb}
use Rattle.bank.specs.declared.fault.BankFault.{BankFault}
use Rattle.bank.specs.declared.word.Cell.{Cell}
use Rattle.bank.specs.declared.word.Change.{Change}
use Rattle.bank.specs.Words.{number_of, blank, word_in, with_change}
use Rattle.bank.specs.Banks.{on_cell, fits, change_taken, change_put, changed}
use Rattle.bank.proofs.Laws.{on_cell-told, changed-past, word_taken-here, three_puts}
use Rattle.layers.specs.declared.join.Side.{Side}
use Rattle.layers.specs.Joins.{joined, beyond, side_of}

pub length-joined : (first second : List Cell) → length (joined first second) ≡ min (length first + length second) 4096
unfolding joined
length-joined first second = rw (length-take, length-append) (omega arith)

-- The cells of the two banks are those that a join shows and those past them.
pub both-kept : (first second : List Cell) → first ++ second ≡ joined first second ++ beyond first second
unfolding joined beyond
both-kept first second = sym (take-append-drop 4096 (first ++ second))

-- That cell n lies in the first bank, or in the second, and is cell i there.
pub record InFirst (first second : List Cell) (n i : ℕ) : Type 0 where
  pub shown : n < length (joined first second)
  pub here : n < length first
  pub at : i ≡ n

pub record InSecond (first second : List Cell) (n i : ℕ) : Type 0 where
  pub shown : n < length (joined first second)
  pub past : length first ≤ n
  pub here : n - length first < length second
  pub at : i ≡ n - length first

side-first : (k n i : ℕ) → Side.First i ≡ side_of k n → (n < k) × (i ≡ n)
side-first k n i e = grind (arith, common_steps)

side-second : (k n i : ℕ) → Side.Second i ≡ side_of k n → (k ≤ n) × (i ≡ n - k)
side-second k n i e = grind (arith, common_steps)

pub in-first : (first second : List Cell) (n i : ℕ) (side : Side) → Ok side ≡ on_cell (joined first second) n (Ok (side_of (length first) n)) → side ≡ Side.First i → InFirst first second n i
in-first first second n i side told is =
    let is_side = on_cell-told (joined first second) n (side_of (length first) n) side told in
    let at = side-first (length first) n i (sym is ∙ is_side.1) in
    record { shown = is_side.0; here = at.0; at = at.1 }

pub in-second : (first second : List Cell) (n i : ℕ) (side : Side) → Ok side ≡ on_cell (joined first second) n (Ok (side_of (length first) n)) → side ≡ Side.Second i → InSecond first second n i
in-second first second n i side told is =
    let is_side = on_cell-told (joined first second) n (side_of (length first) n) side told in
    let at = side-second (length first) n i (sym is ∙ is_side.1) in
    record {
      shown = is_side.0;
      past = at.0;
      here = omega (arith, at.0, is_side.0, length-joined first second);
      at = at.1;
    }

-- The cells of the one list.
pub get_or-first : (first second : List Cell) (n : ℕ) → n < length (joined first second) → n < length first → get_or first n blank ≡ get_or (joined first second) n blank
unfolding joined
get_or-first first second n h l = rw (get_or-take 4096 (first ++ second) n blank (omega (arith, length-joined first second)), get_or_append_left first second blank n l)

pub get_or-second : (first second : List Cell) (n : ℕ) → n < length (joined first second) → length first ≤ n → get_or second (n - length first) blank ≡ get_or (joined first second) n blank
unfolding joined
get_or-second first second n h l = rw (get_or-take 4096 (first ++ second) n blank (omega (arith, length-joined first second)), get_or-append_right first second (length first) n blank refl l)

-- A change of one bank is a change of the one list.
append-changed_left : (f : Cell → Cell) (first second : List Cell) (n : ℕ) → n < length first → changed f first n ++ second ≡ changed f (first ++ second) n
append-changed_left f first second n l = rw (get_or_append_left first second blank n l) (sym (set-append_left first second n _ l))

append-changed_right : (f : Cell → Cell) (first second : List Cell) (n : ℕ) → length first ≤ n → first ++ changed f second (n - length first) ≡ changed f (first ++ second) n
append-changed_right f first second n l = rw (get_or-append_right first second (length first) n blank refl l) (sym (set-append_right first second (length first) n _ refl l))

-- What a join shows after a change of a cell that it shows, and what it does not show.
front-changed : (f : Cell → Cell) (first second first' second' : List Cell) (n : ℕ) → n < length (joined first second) → first' ++ second' ≡ changed f (first ++ second) n → (joined first' second' ≡ changed f (joined first second) n) × (beyond first' second' ≡ beyond first second)
unfolding joined beyond
front-changed f first second first' second' n h is =
    let all = first ++ second in
    let below : n < 4096 = omega (arith, length-take 4096 all) in
    let same = get_or-take 4096 all n blank below in
    let front : take 4096 (first' ++ second') ≡ changed f (take 4096 all) n = rw (is, take-set-lt 4096 all n (f (get_or all n blank)) below, same) in
    let back : drop 4096 (first' ++ second') ≡ drop 4096 all = rw is (drop-set-lt 4096 all n _ below) in
    (front, back)

-- A change made by way of the first or the second bank, each with its own limit.
pub record Done (l m : ℕ) (change : Change) (first second first' second' : List Cell) (n : ℕ) (r : Result (Unit {0}) BankFault) : Type 0 where
  pub answer : r ≡ change_taken (min l m) (joined first second) n change
  pub after : joined first' second' ≡ change_put (min l m) (joined first second) n change
  pub front : first' ≡ change_put (min l m) first n change
  pub split : length first' ≡ length first
  pub past : beyond first' second' ≡ beyond first second

pub done-first : (l m : ℕ) (change : Change) (first second first' : List Cell) (n i : ℕ) (r : Result (Unit {0}) BankFault) → InFirst first second n i → fits (min l m) (word_in change) ≡ true → r ≡ change_taken l first i change → first' ≡ change_put l first i change → Done l m change first second first' second n r
done-first l m change first second first' n i r side fit answer after =
    let w = word_in change in
    let own : fits l w ≡ true = le-leb (number_of w) l (omega (arith, leb-true (number_of w) (min l m) fit)) in
    let now : first' ≡ changed (with_change change) first n = rw (side.at, own) at after in
    let all = front-changed (with_change change) first second first' second n side.shown (rw now (append-changed_left (with_change change) first second n side.here)) in
    record {
      answer = rw (word_taken-here (min l m) (joined first second) n w side.shown fit) (answer ∙ rw side.at (word_taken-here l first n w side.here own));
      after = rw fit all.0;
      front = rw fit now;
      split = rw now (length-set first n _);
      past = all.1;
    }

pub done-second : (l m : ℕ) (change : Change) (first second second' : List Cell) (n i : ℕ) (r : Result (Unit {0}) BankFault) → InSecond first second n i → fits (min l m) (word_in change) ≡ true → r ≡ change_taken m second i change → second' ≡ change_put m second i change → Done l m change first second first second' n r
done-second l m change first second second' n i r side fit answer after =
    let w = word_in change in
    let own : fits m w ≡ true = le-leb (number_of w) m (omega (arith, leb-true (number_of w) (min l m) fit)) in
    let now : second' ≡ changed (with_change change) second (n - length first) = rw (side.at, own) at after in
    let all = front-changed (with_change change) first second first second' n side.shown (rw now (append-changed_right (with_change change) first second n side.past)) in
    record {
      answer = rw (word_taken-here (min l m) (joined first second) n w side.shown fit) (answer ∙ rw side.at (word_taken-here m second (n - length first) w side.here own));
      after = rw fit all.0;
      front = rw fit (sym (changed-past (with_change change) first n side.past));
      split = refl;
      past = all.1;
    }

-- What the write of a whole cell uses.
pub ruleset of_laying = (three_puts)

-- How many cells a join shows.
pub ruleset of_size = (length-joined)
