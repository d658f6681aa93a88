-- Offers and scans keep the invariant of marking.
use Rattle.std.proofs.Common.{◌≡◌, ℕ, ◌<◌, ◌≤◌, Bool, true, false, List, ◌∷◌, length, arith, rules}
use Rattle.std.proofs.lemmas.Bool.{cases_eq}
use Rattle.bank.specs.Words.{with_mark}
use Rattle.bank.specs.Banks.{changed}
use Rattle.bank.specs.declared.word.Word.{Word}
use Rattle.bank.specs.declared.word.Cell.{Cell}
use Rattle.collector.specs.States.{Heap, at}
use Rattle.collector.specs.Turns.{pushed, offer_if, offer}
use Rattle.collector.specs.Calls.{car_of, cdr_of}
use Rattle.collector.proofs.Sets.{mem-left, mem-right, mem-either, few-below}
use Rattle.collector.proofs.Cells.{changed-other, unmarked-within}
use Rattle.collector.proofs.Same.{done-marks, Grown, grown-refl, same-mark, live_same}
use Rattle.collector.proofs.Invariant.{Sound, Live, Done, Kept, Marking, Past}

-- A marked cell and the others, after one is marked.
marked-here : (cs : List Cell) (n : ℕ) → n < length cs → (at (changed (with_mark true) cs n) n).mark ≡ true
marked-here cs n l = search rules

grown-mark : (cs : List Cell) (n : ℕ) → n < length cs → Grown cs (changed (with_mark true) cs n)
grown-mark cs n l = search (rules, same-mark, cases_eq, marked-here, changed-other)

mark_was : (cs : List Cell) (n k : ℕ) → (k ≡ n → ⊥) → (at (changed (with_mark true) cs n) k).mark ≡ (at cs k).mark
mark_was cs n k ne = search rules

module _ (R F : ℕ → Type 0) (old : List Cell) where
  -- One field's part of marking a cell that was unmarked.
  kept_push : (field : Cell → Word) (hand : List ℕ) (cs : List Cell) (stack : List ℕ) (n : ℕ) → n < length cs
      → ((m : ℕ) → field (at (changed (with_mark true) cs n) m) ≡ field (at cs m))
      → Kept field R old hand cs stack → Kept field R old hand (changed (with_mark true) cs n) (n ∷ stack)
  kept_push field hand cs stack n l reads k m r =
      let d = done-marks cs (changed (with_mark true) cs n) (grown-mark cs n l).marks (field (at old m)) in
      grind (arith, cases_eq m n, mark_was cs n m, reads m, k m r, d, mem-either m hand stack, mem-left m hand (n ∷ stack), mem-right m hand (n ∷ stack))

  module _ (hand popped : List ℕ) where
    -- An unmarked live cell was reachable: what was free and is taken is marked.
    was-reachable : (cs : List Cell) (stack : List ℕ) (n : ℕ) → Marking R F old hand popped cs stack → Live R F 0 cs n → (at cs n).mark ≡ false → R n
    was-reachable cs stack n m l u = search rules

    push-marking : (cs : List Cell) (stack : List ℕ) (n : ℕ) → Live R F 0 cs n → (at cs n).mark ≡ false → Marking R F old hand popped cs stack → Marking R F old hand popped (changed (with_mark true) cs n) (n ∷ stack)
    push-marking cs stack n live u m =
        let ds : List Cell = changed (with_mark true) cs n in
        let l : n < length cs = unmarked-within cs n u in
        let g : Grown cs ds = grown-mark cs n l in
        let r : R n = was-reachable cs stack n m live u in
        record {
          holds = λ k lk mk. search (rules, cases_eq k n, live_same, mark_was, m.holds);
          taken = λ k f used. search (rules, g.marks, m.taken);
          waits = λ k i. search (rules, m.waits, g.marks, marked-here);
          scanned = λ k i. search (rules, m.scanned, g.marks);
          waits-once = search (rules, m.waits);
          scanned-once = m.scanned-once;
          apart = λ k i j. search (rules, m.scanned, m.apart);
          all = λ k rk mk. grind (arith, cases_eq k n, mark_was, m.all);
          keeps-car = kept_push car_of hand cs stack n l g.same.cars m.keeps-car;
          keeps-cdr = kept_push cdr_of hand cs stack n l g.same.cdrs m.keeps-cdr;
        }

    -- There is always room on the waiting stack.
    has_room : (cs : List Cell) (stack : List ℕ) (n : ℕ) → length cs ≤ 4096 → Past R F (length cs) → Live R F 0 cs n → (at cs n).mark ≡ false → Marking R F old hand popped cs stack → pushed n stack ≡ n ∷ stack
    has_room cs stack n few past live u m =
        let room : length (n ∷ stack) ≤ length cs = few-below (length cs) (n ∷ stack) (search (rules, m.waits)) (λ k i. search (rules, live.within, past.inside, m.waits)) in
        search rules

    pub record Offered (h k : Heap) (w : Word) : Type 0 where
      pub grown : Grown h.cells k.cells
      pub marking : Marking R F old hand popped k.cells k.stack
      pub done : Done k.cells w

    offer_if-marks : (b : Bool) (n : ℕ) (h : Heap) → (at h.cells n).mark ≡ b → Live R F 0 h.cells n → length h.cells ≤ 4096 → Past R F (length h.cells)
        → Marking R F old hand popped h.cells h.stack → Offered h (offer_if b n h) (Word.Cell n)
    offer_if-marks true n h e live few past m = search
    offer_if-marks false n h e live few past m = search (rules, grown-mark, has_room, push-marking, marked-here)

    pub offer-marks : (limit : ℕ) (w : Word) (h : Heap) → Sound limit (Live R F 0 h.cells) w → length h.cells ≤ 4096 → Past R F (length h.cells)
        → Marking R F old hand popped h.cells h.stack → Offered h (offer w h) w
    offer-marks limit w h s few past m = search (rules, grown-refl, offer_if-marks)
