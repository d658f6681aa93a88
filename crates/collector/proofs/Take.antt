-- A free cell is taken: what it keeps of the invariant.
use Rattle.std.proofs.Common.{◌≡◌, ℕ, ◌-◌, ◌<◌, ◌≤◌, Bool, true, leb, List, [], ◌∷◌, length, set, Ok, ap, arith, rules, inr}
use Rattle.std.proofs.lemmas.Bool.{cases_eq, cases_lt, le-leb, lt-leb}
use Rattle.bank.specs.Words.{number_of, with_car, with_cdr, with_mark}
use Rattle.bank.specs.Banks.{changed}
use Rattle.bank.specs.declared.word.Word.{Word}
use Rattle.bank.specs.declared.word.Cell.{Cell}
use Rattle.collector.specs.States.{Pool, at}
use Rattle.collector.specs.Calls.{filling, filled, car_of}
use Rattle.collector.proofs.Sets.{each_set}
use Rattle.collector.proofs.Cells.{reserved-within}
use Rattle.collector.proofs.Chains.{links-on}
use Rattle.collector.proofs.Put.{Put, used as put-used, vacant-was, put-closed, put-sweeping, Marks}
use Rattle.collector.proofs.Invariant.{Vacant, Sound, Listed, Live, Sweeping, Core}

-- The cell with both words and a mark.
abbrev pub filled-plain : List Cell → ℕ → Word → Word → Bool → List Cell
filled-plain cs h a b m = changed (with_mark m) (changed (with_cdr b) (changed (with_car a) cs h) h) h

pub filled_is : (limit : ℕ) (cs : List Cell) (h : ℕ) (a b : Word) (m : Bool) → number_of a ≤ limit → number_of b ≤ limit → filled limit cs h a b m ≡ filled-plain cs h a b m
filled_is limit cs h a b m la lb = search rules

pub filling-is : (limit : ℕ) (cs : List Cell) (h : ℕ) (a b : Word) → h < length cs → number_of a ≤ limit → number_of b ≤ limit → filling limit cs h a b ≡ Ok tt
filling-is limit cs h a b l la lb = search rules

filled-length : (cs : List Cell) (h : ℕ) (a b : Word) (m : Bool) → length (filled-plain cs h a b m) ≡ length cs
filled-length cs h a b m = search rules

pub filled-here : (cs : List Cell) (h : ℕ) (a b : Word) (m : Bool) → h < length cs → at (filled-plain cs h a b m) h ≡ record { car = a; cdr = b; mark = m }
filled-here cs h a b m l = search rules

pub filled-other : (cs : List Cell) (h : ℕ) (a b : Word) (m : Bool) (n : ℕ) → (n ≡ h → ⊥) → at (filled-plain cs h a b m) n ≡ at cs n
filled-other cs h a b m n ne = search rules

-- Where cells are free, the head is one of them.
pub first-free : (cs : List Cell) (head : Word) (count : ℕ) (fs : List ℕ) → Listed cs head count fs → (count ≡ 0 → ⊥) → (h : ℕ) × (rest : List ℕ) × (fs ≡ h ∷ rest) × (head ≡ Word.Cell h)
first-free cs head count [] l ne = search rules
first-free cs head count (h ∷ rest) l ne = search rules

module _ (R F : ℕ → Type 0) (popped freed : List ℕ) (limit : ℕ) (cs : List Cell) (pool : Pool) (ws : List Word) (h : ℕ) (rest : List ℕ) (a b : Word) where
  pub record Taking : Type 0 where
    pub core : Core R F popped freed limit cs pool ws
    pub listed : Listed cs pool.head pool.count (h ∷ rest)
    pub first : Sound limit (Live R F pool.sweeper cs) a
    pub second : Sound limit (Live R F pool.sweeper cs) b

module _ {R F : ℕ → Type 0} {popped freed : List ℕ} {limit : ℕ} {cs : List Cell} {pool : Pool} {ws : List Word} {h : ℕ} {rest : List ℕ} {a b : Word} (t : Taking R F popped freed limit cs pool ws h rest a b) where
  vacant-h : Vacant cs h
  vacant-h = search rules

  pub within-h : h < length cs
  within-h = reserved-within cs h vacant-h

  module _ (m : Bool) where
    abbrev ds : List Cell
    ds = filled-plain cs h a b m

    here : at ds h ≡ record { car = a; cdr = b; mark = m }
    here = filled-here cs h a b m within-h

    pub put : Put limit (Live R F pool.sweeper cs) cs ds h
    put = search (rules, filled-other, here, t.first, t.second)

    pub taken_live : Live R F pool.sweeper ds h
    taken_live = grind (arith, within-h, filled-length, put-used put, cases_lt, vacant-h)

    pub taken-core : (i : ℕ) → Core R F popped freed limit ds (record { head = (at cs h).car; count = pool.count - 1; sweeper = pool.sweeper }) (set ws i (Word.Cell h))
    taken-core i =
        let c = put-closed put t.core.closed in
        record {
          closed = record { inside = c.inside; cars = c.cars; cdrs = c.cdrs; words = each_set (Sound limit (Live R F pool.sweeper ds)) ws c.words i (Word.Cell h) taken_live };
          fs = rest;
          listed = record {
            links = links-on cs ds (at cs h).car rest (λ n i'. ap car_of (put.other n (λ e. t.listed.distinct.0 (rw e at i')))) t.listed.links.1;
            distinct = t.listed.distinct.1;
            counted = search rules;
            vacant = λ n i'. rw (put.other n (λ e. t.listed.distinct.0 (rw e at i'))) (t.listed.vacant n (inr i'));
            only = λ n v. search (rules, t.listed.only, vacant-was put);
          };
          above = λ n v l. search (rules, t.core.above, vacant-was put);
          past = search (rules, put.len);
          log = t.core.log;
        }

    -- Where the sweep stands belongs to what is still to be swept: the new cell is marked at that place too.
    pub taken-sweeping : {stack : List ℕ} → m ≡ leb pool.sweeper h → Sweeping R F pool.sweeper popped cs stack → Sweeping R F pool.sweeper popped ds stack
    taken-sweeping e s = put-sweeping put taken_live (λ l. search (rules, here, lt-leb)) (λ l. search (rules, here, le-leb)) s

    -- The new cell was free when marking began, so it was not reachable.
    pub taken-marks : pool.sweeper ≡ 0 → m ≡ true → Marks put
    taken-marks z e = grind (arith, cases_eq, put.other, taken_live, here, vacant-h, t.core.past.apart, t.core.above)
