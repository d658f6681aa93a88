-- The turns of marking: its beginning, its scans, and its end.
use Rattle.std.proofs.Common.{◌≡◌, ℕ, zero, suc, ◌≤◌, true, List, [], ◌∷◌, ◌++◌, length, refl, inl, inr, append_assoc, arith, rules}
use Rattle.bank.specs.declared.word.Word.{Word}
use Rattle.bank.specs.declared.word.Cell.{Cell}
use Rattle.collector.specs.Lists.{Each}
use Rattle.collector.specs.States.{Heap, at}
use Rattle.collector.specs.Turns.{offer, offers, scan_on, scan, scans, latest, scanned}
use Rattle.collector.specs.Calls.{car_of, cdr_of}
use Rattle.collector.specs.Reach.{Reach, root, via}
use Rattle.collector.proofs.Sets.{mem-left, mem-right, mem-either, distinct_append, each_at}
use Rattle.collector.proofs.Same.{Same, Grown, grown-trans, done-marks, live_same, sounds-map, closed_same}
use Rattle.collector.proofs.Mark.{offer-marks}
use Rattle.collector.proofs.Invariant.{Vacant, Sound, Closed, Live, Done, Kept, Marking, Sweeping, Past}

-- What marking needs of the rest of the state.
pub record Ready (R F : ℕ → Type 0) (limit : ℕ) (ws : List Word) (cs : List Cell) : Type 0 where
  pub few : length cs ≤ 4096
  pub closed : Closed limit (Live R F 0 cs) cs ws
  pub above : (n : ℕ) → Vacant cs n → F n
  pub past : Past R F (length cs)

module _ (R F : ℕ → Type 0) (limit : ℕ) (ws : List Word) where
  pub ready-same : (cs ds : List Cell) → Same cs ds → Ready R F limit ws cs → Ready R F limit ws ds
  ready-same cs ds e r = let c = closed_same R F limit 0 cs ds ws e r.closed in search rules

  -- What was reachable is live.
  pub reachable-live : (cs : List Cell) → Ready R F limit ws cs → (m : ℕ) → R m → Live R F 0 cs m
  reachable-live cs r m h = search rules

  module _ (old : List Cell) where
    pub record Marked (hand popped : List ℕ) (h k : Heap) (vs : List Word) : Type 0 where
      pub grown : Grown h.cells k.cells
      pub marking : Marking R F old hand popped k.cells k.stack
      pub done : Each (Done k.cells) vs

    pub offers-marks : (hand popped : List ℕ) (vs : List Word) (h : Heap) → Ready R F limit ws h.cells → Each (Sound limit (Live R F 0 h.cells)) vs
        → Marking R F old hand popped h.cells h.stack → Marked hand popped h (offers vs h) vs
    offers-marks hand popped [] h r s m = search
    offers-marks hand popped (v ∷ vs) h r s m =
        let o = offer-marks R F old hand popped limit v h s.0 r.few r.past m in
        let rest = offers-marks hand popped vs (offer v h) (ready-same h.cells (offer v h).cells o.grown.same r) (sounds-map limit (Live R F 0 h.cells) (Live R F 0 (offer v h).cells) (live_same R F 0 h.cells (offer v h).cells o.grown.same) vs s.1) o.marking in
        search (rules, grown-trans, done-marks, rest.grown.marks)

    -- The latest waiting cell is taken in hand.
    pop-marking : (popped : List ℕ) (cs : List Cell) (m : ℕ) (stack : List ℕ) → Marking R F old [] popped cs (m ∷ stack) → Marking R F old (m ∷ []) (popped ++ m ∷ []) cs stack
    pop-marking popped cs m stack k = record {
      holds = k.holds;
      taken = k.taken;
      waits = λ n i. k.waits n (inr i);
      scanned = λ n i. search (rules, mem-either n popped, k.scanned, k.waits);
      waits-once = k.waits-once.1;
      scanned-once = distinct_append popped (m ∷ []) k.scanned-once (search rules) (λ n i j. search (rules, k.apart));
      apart = λ n i j. search (rules, mem-either n popped, k.apart, k.waits-once.0);
      all = λ n r mk. grind (arith, k.all n r mk, mem-left n popped (m ∷ []), mem-right n popped (m ∷ []));
      keeps-car = k.keeps-car;
      keeps-cdr = k.keeps-cdr;
    }

    release : (popped : List ℕ) (m : ℕ) (cs : List Cell) (stack : List ℕ) → Done cs (at cs m).car → Done cs (at cs m).cdr → Marking R F old (m ∷ []) popped cs stack → Marking R F old [] popped cs stack
    release popped m cs stack da dd k = search rules

    scan-marks : (popped stack : List ℕ) (cs : List Cell) → Ready R F limit ws cs → Marking R F old [] popped cs stack
        → Marked [] (popped ++ latest stack) (record { cells = cs; stack = stack }) (scan_on stack cs) []
    scan-marks popped [] cs r m = search rules
    scan-marks popped (m ∷ stack) cs r k =
        let live : Live R F 0 cs m = reachable-live cs r m (k.waits m (inl refl)).0 in
        let o = offers-marks (m ∷ []) (popped ++ m ∷ []) ((at cs m).car ∷ (at cs m).cdr ∷ []) (record { cells = cs; stack = stack }) r (r.closed.cars m live, (r.closed.cdrs m live, tt)) (pop-marking popped cs m stack k) in
        search (rules, release)

    pub scans-marks : (k : ℕ) (popped : List ℕ) (h : Heap) → Ready R F limit ws h.cells → Marking R F old [] popped h.cells h.stack
        → Marked [] (popped ++ scanned k h) h (scans k h) []
    scans-marks zero popped h r m = search rules
    scans-marks (suc k) popped h r m =
        let one = scan-marks popped h.stack h.cells r m in
        let j : Heap = scan h in
        let rest = scans-marks k (popped ++ latest h.stack) j (ready-same h.cells j.cells one.grown.same r) one.marking in
        search (rules, grown-trans, append_assoc)

-- Where nothing waits, everything that was reachable is marked.
module _ (F : ℕ → Type 0) (old : List Cell) (ws : List Word) (popped : List ℕ) (cs : List Cell) where
  abbrev Was : ℕ → Type 0
  Was = Reach ws (λ m. (at old m).car) (λ m. (at old m).cdr)

  target : (field : Cell → Word) (m n : ℕ) → Kept field Was old [] cs [] → Was m → (at cs m).mark ≡ true → field (at old m) ≡ Word.Cell n → (at cs n).mark ≡ true
  target field m n k r mk e = search rules

  pub all-marked : Marking Was F old [] popped cs [] → Each (Done cs) ws → (n : ℕ) → Was n → (at cs n).mark ≡ true
  all-marked k d n (root i) = search (rules, each_at)
  all-marked k d n (via {m = m} r (inl e)) = target car_of m n k.keeps-car r (all-marked k d m r) e
  all-marked k d n (via {m = m} r (inr e)) = target cdr_of m n k.keeps-cdr r (all-marked k d m r) e

  pub marking-ends : Marking Was F old [] popped cs [] → Each (Done cs) ws → Sweeping Was F 0 popped cs []
  marking-ends k d = search (rules, all-marked)
