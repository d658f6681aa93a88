-- A word of a live cell is replaced: what that keeps of the invariant.
use Rattle.std.proofs.Common.{◌≡◌, ℕ, ◌⊎◌, List, rules, ap, sym, ◌∙◌, arith}
use Rattle.bank.specs.Banks.{changed}
use Rattle.bank.specs.declared.word.Word.{Word}
use Rattle.bank.specs.declared.word.Cell.{Cell}
use Rattle.collector.specs.States.{Pool, at}
use Rattle.collector.specs.Calls.{car_of}
use Rattle.collector.proofs.Cells.{changed-here, reads_same}
use Rattle.collector.proofs.Chains.{links-on}
use Rattle.collector.proofs.Put.{Put, vacant-was, put-to, put-closed, Marks}
use Rattle.collector.proofs.Invariant.{Vacant, Sound, Live, Done, Sweeping, Core}

module _ (R F : ℕ → Type 0) (popped freed : List ℕ) (limit : ℕ) (cs : List Cell) (pool : Pool) (ws : List Word) (n : ℕ) (f : Cell → Cell) where
  pub record Replacing : Type 0 where
    pub core : Core R F popped freed limit cs pool ws
    pub live : Live R F pool.sweeper cs n
    pub car-sound : Sound limit (Live R F pool.sweeper cs) (f (at cs n)).car
    pub cdr-sound : Sound limit (Live R F pool.sweeper cs) (f (at cs n)).cdr
    pub unmoved : (c : Cell) → (f c).mark ≡ c.mark

module _ {R F : ℕ → Type 0} {popped freed : List ℕ} {limit : ℕ} {cs : List Cell} {pool : Pool} {ws : List Word} {n : ℕ} {f : Cell → Cell} (t : Replacing R F popped freed limit cs pool ws n f) where
  abbrev ds : List Cell
  ds = changed f cs n

  here : at ds n ≡ f (at cs n)
  here = changed-here f cs n t.live.within

  pub put : Put limit (Live R F pool.sweeper cs) cs ds n
  put = search (rules, here, t.car-sound, t.cdr-sound)

  pub mark-same : (k : ℕ) → (at ds k).mark ≡ (at cs k).mark
  mark-same k = reads_same (λ c. c.mark) f t.unmoved cs n k

  vacant-is : (k : ℕ) → Vacant cs k → Vacant ds k
  vacant-is k v = rw (put.other k (λ e. t.live.used (rw e at v))) v

  pub replaced-core : Core R F popped freed limit ds pool ws
  replaced-core = record {
    closed = put-closed put t.core.closed;
    fs = t.core.fs;
    listed = record {
      links = links-on cs ds pool.head t.core.fs (λ k i. ap car_of (put.other k (λ e. t.live.used (rw e at (t.core.listed.vacant k i))))) t.core.listed.links;
      distinct = t.core.listed.distinct;
      counted = t.core.listed.counted;
      vacant = λ k i. search (vacant-is, t.core.listed.vacant);
      only = λ k v. search (rules, t.core.listed.only, vacant-was put);
    };
    above = λ k v l. search (rules, t.core.above, vacant-was put);
    past = search (rules, put.len);
    log = t.core.log;
  }

  -- At any place of the sweep: the cell is no vacant one, and no mark changes.
  pub replaced-sweeping : {p : ℕ} {stack : List ℕ} → Sweeping R F p popped cs stack → Sweeping R F p popped ds stack
  replaced-sweeping {p} s = record {
    low = λ k b l. mark-same k ∙ s.low k b (omega (arith, l, put.len));
    holds = λ k b l mk. put-to put p k (s.holds k b (omega (arith, l, put.len)) (sym (mark-same k) ∙ mk));
    live = λ k b l. mark-same k ∙ s.live k b (record { within = omega (arith, l.within, put.len); used = λ v. l.used (vacant-is k v); known = l.known });
    rest = s.rest;
    covers = s.covers;
  }

  -- A field that is replaced had its old word offered.
  pub replaced-marks : pool.sweeper ≡ 0 → ((f (at cs n)).car ≡ (at cs n).car) ⊎ Done cs (at cs n).car → ((f (at cs n)).cdr ≡ (at cs n).cdr) ⊎ Done cs (at cs n).cdr → Marks put
  replaced-marks z a d = search (rules, t.live, put-to put, mark-same, here)
