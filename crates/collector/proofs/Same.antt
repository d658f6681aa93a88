-- Cells whose words are the same: what does not speak of marks carries over.
use Rattle.std.proofs.Common.{◌≡◌, ℕ, Bool, true, List, [], ◌∷◌, length, sym, refl, ◌∙◌, rules}
use Rattle.bank.specs.Words.{with_mark}
use Rattle.bank.specs.Banks.{changed}
use Rattle.bank.specs.declared.word.Word.{Word}
use Rattle.bank.specs.declared.word.Cell.{Cell}
use Rattle.collector.specs.Lists.{Each}
use Rattle.collector.specs.States.{Pool, at}
use Rattle.collector.proofs.Sets.{each_map}
use Rattle.collector.proofs.Cells.{changed-length, reads_same}
use Rattle.collector.proofs.Invariant.{Sound, Closed, Links, Listed, Live, Done, Past, Core}

pub record Same (cs ds : List Cell) : Type 0 where
  pub len : length ds ≡ length cs
  pub cars : (n : ℕ) → (at ds n).car ≡ (at cs n).car
  pub cdrs : (n : ℕ) → (at ds n).cdr ≡ (at cs n).cdr

pub same-mark : (b : Bool) (cs : List Cell) (n : ℕ) → Same cs (changed (with_mark b) cs n)
same-mark b cs n = record {
  len = changed-length (with_mark b) cs n;
  cars = reads_same (λ c. c.car) (with_mark b) (λ c. refl) cs n;
  cdrs = reads_same (λ c. c.cdr) (with_mark b) (λ c. refl) cs n;
}

-- Marks only grow.
pub record Grown (cs ds : List Cell) : Type 0 where
  pub same : Same cs ds
  pub marks : (n : ℕ) → (at cs n).mark ≡ true → (at ds n).mark ≡ true

pub grown-refl : (cs : List Cell) → Grown cs cs
grown-refl cs = search

pub grown-trans : (cs ds es : List Cell) → Grown cs ds → Grown ds es → Grown cs es
grown-trans cs ds es p q = search rules

-- Marks that only grow keep what is done.
pub done-marks : (cs ds : List Cell) → ((n : ℕ) → (at cs n).mark ≡ true → (at ds n).mark ≡ true) → (w : Word) → Done cs w → Done ds w
done-marks cs ds f w d = search rules

pub dones-marks : (cs ds : List Cell) → ((n : ℕ) → (at cs n).mark ≡ true → (at ds n).mark ≡ true) → (ws : List Word) → Each (Done cs) ws → Each (Done ds) ws
dones-marks cs ds f ws h = search (each_map, done-marks)

pub sound-map : (limit : ℕ) (P Q : ℕ → Type 0) → ((n : ℕ) → P n → Q n) → (w : Word) → Sound limit P w → Sound limit Q w
sound-map limit P Q f w h = search rules

pub sounds-map : (limit : ℕ) (P Q : ℕ → Type 0) → ((n : ℕ) → P n → Q n) → (ws : List Word) → Each (Sound limit P) ws → Each (Sound limit Q) ws
sounds-map limit P Q f ws h = search (each_map, sound-map)

module _ (R F : ℕ → Type 0) where
  pub live_same : (p : ℕ) (cs ds : List Cell) → Same cs ds → (n : ℕ) → Live R F p cs n → Live R F p ds n
  live_same p cs ds e n l = search rules

  pub live_back : (p : ℕ) (cs ds : List Cell) → Same cs ds → (n : ℕ) → Live R F p ds n → Live R F p cs n
  live_back p cs ds e n l = search rules

  pub closed_same : (limit p : ℕ) (cs ds : List Cell) (ws : List Word) → Same cs ds → Closed limit (Live R F p cs) cs ws → Closed limit (Live R F p ds) ds ws
  closed_same limit p cs ds ws e c = search (rules, sound-map, live_same, live_back, each_map)

  pub links-same : (cs ds : List Cell) → ((n : ℕ) → (at ds n).car ≡ (at cs n).car) → (w : Word) (fs : List ℕ) → Links cs w fs → Links ds w fs
  links-same cs ds e w [] h = h
  links-same cs ds e w (n ∷ ns) h = search (rules, links-same cs ds e (at cs n).car ns h.1)

  pub listed_same : (cs ds : List Cell) (head : Word) (count : ℕ) (fs : List ℕ) → Same cs ds → Listed cs head count fs → Listed ds head count fs
  listed_same cs ds head count fs e h = search (rules, links-same)

  pub past-len : (m n : ℕ) → n ≡ m → Past R F m → Past R F n
  past-len m n e p = search rules

  pub core-same : (popped freed : List ℕ) (limit : ℕ) (cs ds : List Cell) (pool : Pool) (ws : List Word) → Same cs ds → Core R F popped freed limit cs pool ws → Core R F popped freed limit ds pool ws
  core-same popped freed limit cs ds pool ws e c = record {
    closed = closed_same limit pool.sweeper cs ds ws e c.closed;
    fs = c.fs;
    listed = listed_same cs ds pool.head pool.count c.fs e c.listed;
    above = λ n v l. c.above n (sym (e.cdrs n) ∙ v) l;
    past = past-len (length cs) (length ds) e.len c.past;
    log = c.log;
  }
