-- One cell is changed to one that holds sound words: what that keeps of the invariant.
use Rattle.std.proofs.Common.{◌≡◌, ℕ, ◌<◌, ◌≤◌, true, false, ◌⊎◌, List, [], length, subst, arith, rules}
use Rattle.std.proofs.lemmas.Bool.{cases_eq}
use Rattle.bank.specs.declared.word.Word.{Word}
use Rattle.bank.specs.declared.word.Cell.{Cell}
use Rattle.collector.specs.States.{at}
use Rattle.collector.specs.Calls.{car_of, cdr_of}
use Rattle.collector.proofs.Same.{sounds-map, done-marks}
use Rattle.collector.proofs.Invariant.{Vacant, Sound, Closed, Live, Done, Kept, Marking, Sweeping}

pub record Put (limit : ℕ) (Q : ℕ → Type 0) (cs ds : List Cell) (n : ℕ) : Type 0 where
  pub len : length ds ≡ length cs
  pub other : (k : ℕ) → (k ≡ n → ⊥) → at ds k ≡ at cs k
  pub car-sound : Sound limit Q (at ds n).car
  pub cdr-sound : Sound limit Q (at ds n).cdr

module _ {limit p n : ℕ} {R F : ℕ → Type 0} {cs ds : List Cell} (t : Put limit (Live R F p cs) cs ds n) where
  pub used : Vacant ds n → ⊥
  used v = subst (Sound limit (Live R F p cs)) v t.cdr-sound

  pub vacant-was : (k : ℕ) → Vacant ds k → (k ≡ n → ⊥) × Vacant cs k
  vacant-was k v = search (rules, used, t.other)

  pub put-to : (q k : ℕ) → Live R F q cs k → Live R F q ds k
  put-to q k l = search (rules, vacant-was, t.len)

  pub put-back : (q k : ℕ) → (k ≡ n → ⊥) → Live R F q ds k → Live R F q cs k
  put-back q k ne l = search (rules, t.other, t.len)

  -- A field of the changed cell, and of the others.
  field-sound : (field : Cell → Word) → Sound limit (Live R F p cs) (field (at ds n)) → ((k : ℕ) → Live R F p cs k → Sound limit (Live R F p cs) (field (at cs k)))
      → (k : ℕ) → Live R F p ds k → Sound limit (Live R F p ds) (field (at ds k))
  field-sound field new others k l = search rules

  pub put-closed : {ws : List Word} → Closed limit (Live R F p cs) cs ws → Closed limit (Live R F p ds) ds ws
  put-closed {ws} c = record {
    inside = λ k l. l.within;
    cars = field-sound car_of t.car-sound c.cars;
    cdrs = field-sound cdr_of t.cdr-sound c.cdrs;
    words = sounds-map limit (Live R F p cs) (Live R F p ds) (put-to p) ws c.words;
  }

  -- Its mark is as the place of the sweep asks.
  pub put-sweeping : {popped stack : List ℕ} → Live R F p ds n → (n < p → (at ds n).mark ≡ false) → (p ≤ n → (at ds n).mark ≡ true) → Sweeping R F p popped cs stack → Sweeping R F p popped ds stack
  put-sweeping live low high s = grind (arith, cases_eq, t.other, put-to, put-back)

  -- Marks grow, and stay on what was reachable; a field of that keeps its word, or had it offered.
  pub record Marks : Type 0 where
    pub live : Live R F 0 ds n
    pub grows : (k : ℕ) → (at cs k).mark ≡ true → (at ds k).mark ≡ true
    pub same : (k : ℕ) → R k → (at ds k).mark ≡ (at cs k).mark
    pub new : (Vacant cs n → ⊥) ⊎ ((at ds n).mark ≡ true)
    pub car : R n → ((at ds n).car ≡ (at cs n).car) ⊎ Done cs (at cs n).car
    pub cdr : R n → ((at ds n).cdr ≡ (at cs n).cdr) ⊎ Done cs (at cs n).cdr

  module _ (m : Marks) where
    kept-put : (old : List Cell) (stack : List ℕ) (field : Cell → Word) → (R n → (field (at ds n) ≡ field (at cs n)) ⊎ Done cs (field (at cs n))) → Kept field R old [] cs stack → Kept field R old [] ds stack
    kept-put old stack field either h k r = search (rules, done-marks, m.grows, m.same, cases_eq, t.other, h)

    pub put-marking : {old : List Cell} {popped stack : List ℕ} → Marking R F old [] popped cs stack → Marking R F old [] popped ds stack
    put-marking k = record {
      holds = λ j l mk. search (rules, cases_eq j n, t.other, t.len, put-to, k.holds, m.live);
      taken = λ j f u. grind (arith, cases_eq j n, t.other, m.grows, m.new, k.taken);
      waits = λ j i. search (rules, k.waits, m.grows);
      scanned = λ j i. search (rules, k.scanned, m.grows);
      waits-once = k.waits-once;
      scanned-once = k.scanned-once;
      apart = k.apart;
      all = λ j r mk. search (rules, k.all, m.same);
      keeps-car = kept-put _ _ car_of m.car k.keeps-car;
      keeps-cdr = kept-put _ _ cdr_of m.cdr k.keeps-cdr;
    }
