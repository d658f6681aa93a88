-- The sweep of a cell keeps the invariant.
use Rattle.std.proofs.Common.{◌≡◌, ℕ, zero, suc, ◌+◌, ◌<◌, ◌≤◌, min, Bool, true, false, ltb, ◌⊎◌, List, [], ◌∷◌, ◌++◌, length, refl, ap, ◌∙◌, inl, inr, append_assoc, arith, length-append, rules}
use Rattle.std.proofs.lemmas.Bool.{cases_eq, ltb-true}
use Rattle.bank.specs.Words.{with_car, with_cdr, with_mark}
use Rattle.bank.specs.Banks.{changed, word_put}
use Rattle.bank.specs.declared.word.Word.{Word}
use Rattle.bank.specs.declared.word.Cell.{Cell}
use Rattle.collector.specs.Lists.{Mem, Distinct}
use Rattle.collector.specs.States.{at}
use Rattle.collector.specs.Turns.{raised, Ground, is_reserved, treat, advance, sweep_if, sweep, sweeps, frees_if, frees, freed}
use Rattle.collector.proofs.Sets.{mem-left, mem-right, mem-either, distinct_append, few-below}
use Rattle.collector.proofs.Cells.{changed-here, changed-other, put-fits, reserved-within}
use Rattle.collector.proofs.Chains.{links-on, listed-fits}
use Rattle.collector.proofs.Same.{Same, same-mark, sound-map, sounds-map, listed_same}
use Rattle.collector.proofs.Invariant.{Vacant, Listed, Live, Freed, Sweeping, Core}

pub reserved-is : (w : Word) → is_reserved w ≡ true → w ≡ Word.Reserved
reserved-is w e = search rules

pub reserved-not : (w : Word) → is_reserved w ≡ false → w ≡ Word.Reserved → ⊥
reserved-not w e q = search rules

module _ (R F : ℕ → Type 0) (popped : List ℕ) (limit : ℕ) (ws : List Word) (stack : List ℕ) where
  pub record Swept (fr more : List ℕ) (g h : Ground) : Type 0 where
    pub core : Core R F popped (fr ++ more) limit h.cells h.pool ws
    pub sweeping : Sweeping R F h.pool.sweeper popped h.cells stack
    pub len : length h.cells ≡ length g.cells
    pub moved : (n : ℕ) → Live R F g.pool.sweeper g.cells n → ((at h.cells n).car ≡ (at g.cells n).car) × ((at h.cells n).cdr ≡ (at g.cells n).cdr)
    pub keeps : (n : ℕ) → Live R F g.pool.sweeper g.cells n → Live R F h.pool.sweeper h.cells n
    pub counted : h.pool.count ≡ g.pool.count + length more

  -- What the sweep of one cell does to it, to the free list and to the log.
  record Treated (g : Ground) (ds : List Cell) (head : Word) (count : ℕ) (more : List ℕ) : Type 0 where
    len : length ds ≡ length g.cells
    other : (n : ℕ) → (n ≡ g.pool.sweeper → ⊥) → at ds n ≡ at g.cells n
    off : (at ds g.pool.sweeper).mark ≡ false
    same : Live R F g.pool.sweeper g.cells g.pool.sweeper → ((at ds g.pool.sweeper).car ≡ (at g.cells g.pool.sweeper).car) × ((at ds g.pool.sweeper).cdr ≡ (at g.cells g.pool.sweeper).cdr)
    was : (Vacant ds g.pool.sweeper → ⊥) → Live R F g.pool.sweeper g.cells g.pool.sweeper
    fs : List ℕ
    listed : Listed ds head count fs
    counted : count ≡ g.pool.count + length more
    logged : ((more ≡ []) × (R g.pool.sweeper ⊎ F g.pool.sweeper)) ⊎ ((more ≡ g.pool.sweeper ∷ []) × (R g.pool.sweeper → ⊥) × (F g.pool.sweeper → ⊥))

  module _ (fr : List ℕ) (g : Ground) (c : Core R F popped fr limit g.cells g.pool ws) (s : Sweeping R F g.pool.sweeper popped g.cells stack) (l : g.pool.sweeper < length g.cells) where
    abbrev p : ℕ
    p = g.pool.sweeper

    abbrev cs : List Cell
    cs = g.cells

    module _ {ds : List Cell} {head : Word} {count : ℕ} {more : List ℕ} (t : Treated g ds head count more) where
      words : (n : ℕ) → Live R F p cs n → ((at ds n).car ≡ (at cs n).car) × ((at ds n).cdr ≡ (at cs n).cdr)
      words n h = search (rules, cases_eq n p, t.other, t.same)

      to : (n : ℕ) → Live R F p cs n → Live R F (p + 1) ds n
      to n h = grind (arith, words, t.len)

      back : (n : ℕ) → Live R F (p + 1) ds n → Live R F p cs n
      back n h = search (rules, cases_eq n p, t.other, t.len, t.was)

      news : (n : ℕ) → Mem n more → (n ≡ p) × (R n → ⊥) × (F n → ⊥)
      news n i = grind (arith, t.logged)

      here : (R p → ⊥) → (F p → ⊥) → Mem p more
      here nr nf = grind (arith, t.logged)

      news_once : Distinct more
      news_once = grind (arith, t.logged)

      logs : Freed R F (p + 1) popped (fr ++ more)
      logs = record {
        once = distinct_append fr more c.log.once news_once (λ n i j. grind (arith, c.log.only n i, news n j));
        only = λ n i. grind (arith, mem-either n fr more i, c.log.only, news);
        all = λ n b nr nf. search (rules, cases_eq n p, mem-left, mem-right, c.log.all, here);
        cover = λ n b. grind (arith, cases_eq n p, mem-left, mem-right, c.log.cover, here, s.covers, t.logged);
      }

      treated : Swept fr more g (record { cells = ds; pool = record { head = head; count = count; sweeper = p + 1 } })
      treated = record {
        core = record {
          closed = record {
            inside = λ n h. h.within;
            cars = λ n h. rw (words n (back n h)).0 (sound-map limit (Live R F p cs) (Live R F (p + 1) ds) to (at cs n).car (c.closed.cars n (back n h)));
            cdrs = λ n h. rw (words n (back n h)).1 (sound-map limit (Live R F p cs) (Live R F (p + 1) ds) to (at cs n).cdr (c.closed.cdrs n (back n h)));
            words = sounds-map limit (Live R F p cs) (Live R F (p + 1) ds) to ws c.closed.words;
          };
          fs = t.fs;
          listed = t.listed;
          above = λ n v b. grind (arith, t.other, c.above);
          past = search (rules, t.len);
          log = logs;
        };
        sweeping = record {
          low = λ n b lc. grind (arith, cases_eq n p, t.other, t.off, s.low, t.len);
          holds = λ n b lc mk. search (rules, to, t.other, t.len, s.holds);
          live = λ n b h. grind (arith, t.other, s.live, back);
          rest = s.rest;
          covers = s.covers;
        };
        len = t.len;
        moved = words;
        keeps = to;
        counted = t.counted;
      }

    -- A marked cell loses its mark.
    treated-marked : (at cs p).mark ≡ true → Treated g (changed (with_mark false) cs p) g.pool.head g.pool.count []
    treated-marked m =
        let ds : List Cell = changed (with_mark false) cs p in
        let e : Same cs ds = same-mark false cs p in
        let live : Live R F p cs p = s.holds p (omega arith) l m in
        record {
          len = e.len;
          other = λ n ne. changed-other (with_mark false) cs p n ne;
          off = search (rules, changed-here);
          same = λ h. (e.cars p, e.cdrs p);
          was = λ u. live;
          fs = c.fs;
          listed = listed_same R F cs ds g.pool.head g.pool.count c.fs e c.listed;
          counted = omega arith;
          logged = grind arith;
        }

    -- A free cell stays as it is.
    treated-free : (at cs p).mark ≡ false → Vacant cs p → Treated g cs g.pool.head g.pool.count []
    treated-free m v = search rules

    -- Any other cell becomes the head of the free list.
    treated-freed : length cs ≤ 4096 → (at cs p).mark ≡ false → (Vacant cs p → ⊥) → Treated g (changed (with_cdr Word.Reserved) (changed (with_car g.pool.head) cs p) p) (Word.Cell p) (raised g.pool.count) (p ∷ [])
    treated-freed few m nv =
        let bs : List Cell = changed (with_car g.pool.head) cs p in
        let ds : List Cell = changed (with_cdr Word.Reserved) bs p in
        let bl : length bs ≡ length cs = search rules in
        let here : at ds p ≡ with_cdr Word.Reserved (with_car g.pool.head (at cs p)) = changed-here (with_cdr Word.Reserved) bs p (omega arith) ∙ ap (with_cdr Word.Reserved) (changed-here (with_car g.pool.head) cs p l) in
        let other : (n : ℕ) → (n ≡ p → ⊥) → at ds n ≡ at cs n = λ n ne. search (rules, changed-other) in
        let free : (n : ℕ) → Mem n c.fs → n ≡ p → ⊥ = λ n i q. nv (rw q at (c.listed.vacant n i)) in
        let more : raised g.pool.count ≡ g.pool.count + 1 =
        (let longer = few-below (length cs) (p ∷ c.fs) (λ i. free p i refl, c.listed.distinct) (λ n i. elim i [ inl q ↦ rw q l | inr j ↦ reserved-within cs n (c.listed.vacant n j) ]) in
        let k = c.listed.counted in
        search (rules)) in
        let dead : Live R F p cs p → ⊥ = λ h. search (rules, s.live p) in
        record {
          len = search (rules);
          other = other;
          off = search (rules, here);
          same = λ h. absurd (dead h);
          was = λ u. absurd (u (search (rules, here)));
          fs = p ∷ c.fs;
          listed = record {
            links = (refl, rw here (links-on cs ds g.pool.head c.fs (λ n i. ap (λ (x : Cell). x.car) (other n (free n i))) c.listed.links));
            distinct = (λ i. free p i refl, c.listed.distinct);
            counted = let k = c.listed.counted in let e = more in omega arith;
            vacant = λ n i. elim i [ inl q ↦ rw q (ap (λ (x : Cell). x.cdr) here) | inr j ↦ rw (other n (free n j)) (c.listed.vacant n j) ];
            only = λ n v. search (rules, cases_eq n p, other, c.listed.only);
          };
          counted = more;
          logged = inr (refl, λ r. dead (record { within = l; used = nv; known = inr (inl r) }), λ f. dead (record { within = l; used = nv; known = inr (inr f) }));
        }

  -- The sweep of a free cell, and of any other cell that is not marked.
  sweep-free : (fr : List ℕ) (g : Ground) → Core R F popped fr limit g.cells g.pool ws → Sweeping R F g.pool.sweeper popped g.cells stack
      → g.pool.sweeper < length g.cells → (at g.cells g.pool.sweeper).mark ≡ false → Vacant g.cells g.pool.sweeper → Swept fr [] g (advance (treat false true limit g.pool.sweeper g))
  sweep-free fr g c s l m v = treated fr g c s l (treated-free fr g c s l m v)

  sweep-frees : (fr : List ℕ) (g : Ground) → length g.cells ≤ 4096 → 4095 ≤ limit → Core R F popped fr limit g.cells g.pool ws → Sweeping R F g.pool.sweeper popped g.cells stack
      → g.pool.sweeper < length g.cells → (at g.cells g.pool.sweeper).mark ≡ false → (Vacant g.cells g.pool.sweeper → ⊥)
      → Swept fr (g.pool.sweeper ∷ []) g (advance (treat false false limit g.pool.sweeper g))
  sweep-frees fr g few wide c s l m nv =
      let fits = listed-fits g.cells g.pool.head g.pool.count c.fs c.listed few limit wide in
      let put : word_put with_cdr limit (word_put with_car limit g.cells g.pool.sweeper g.pool.head) g.pool.sweeper Word.Reserved ≡ changed (with_cdr Word.Reserved) (changed (with_car g.pool.head) g.cells g.pool.sweeper) g.pool.sweeper = search (rules, put-fits) in
      rw put (treated fr g c s l (treated-freed fr g c s l few m nv))

  treat-keeps : (marked free : Bool) (fr : List ℕ) (g : Ground) → length g.cells ≤ 4096 → 4095 ≤ limit → Core R F popped fr limit g.cells g.pool ws → Sweeping R F g.pool.sweeper popped g.cells stack
      → g.pool.sweeper < length g.cells → (at g.cells g.pool.sweeper).mark ≡ marked → is_reserved (at g.cells g.pool.sweeper).cdr ≡ free
      → Swept fr (frees_if true marked free g.pool.sweeper) g (advance (treat marked free limit g.pool.sweeper g))
  treat-keeps true free fr g few wide c s l m f = treated fr g c s l (treated-marked fr g c s l m)
  treat-keeps false true fr g few wide c s l m f = sweep-free fr g c s l m (reserved-is (at g.cells g.pool.sweeper).cdr f)
  treat-keeps false false fr g few wide c s l m f = sweep-frees fr g few wide c s l m (reserved-not (at g.cells g.pool.sweeper).cdr f)

  stays : (fr : List ℕ) (g : Ground) → Core R F popped fr limit g.cells g.pool ws → Sweeping R F g.pool.sweeper popped g.cells stack → Swept fr [] g g
  stays fr g c s = search rules

  sweep-keeps : (within : Bool) (fr : List ℕ) (g : Ground) → ltb g.pool.sweeper (length g.cells) ≡ within → length g.cells ≤ 4096 → 4095 ≤ limit
      → Core R F popped fr limit g.cells g.pool ws → Sweeping R F g.pool.sweeper popped g.cells stack
      → Swept fr (frees_if within (at g.cells g.pool.sweeper).mark (is_reserved (at g.cells g.pool.sweeper).cdr) g.pool.sweeper) g (sweep_if within limit g)
  sweep-keeps true fr g e few wide c s = search (treat-keeps, ltb-true)
  sweep-keeps false fr g e few wide c s = stays fr g c s

  swept-trans : (fr more rest : List ℕ) (g h k : Ground) → Swept fr more g h → Swept (fr ++ more) rest h k → Swept fr (more ++ rest) g k
  swept-trans fr more rest g h k a b = search (rules, append_assoc, length-append)

  pub sweeps-keep : (k : ℕ) (fr : List ℕ) (g : Ground) → length g.cells ≤ 4096 → 4095 ≤ limit
      → Core R F popped fr limit g.cells g.pool ws → Sweeping R F g.pool.sweeper popped g.cells stack → Swept fr (freed limit k g) g (sweeps limit k g)
  sweeps-keep zero fr g few wide c s = stays fr g c s
  sweeps-keep (suc k) fr g few wide c s =
      let one = sweep-keeps (ltb g.pool.sweeper (length g.cells)) fr g refl few wide c s in
      swept-trans fr (frees g) (freed limit k (sweep limit g)) g (sweep limit g) (sweeps limit k (sweep limit g)) one
      (sweeps-keep k (fr ++ frees g) (sweep limit g) (let e = one.len in omega arith) wide one.core one.sweeping)

treat-length : (marked free : Bool) (limit n : ℕ) (g : Ground) → length (treat marked free limit n g).cells ≡ length g.cells
treat-length true free limit n g = search rules
treat-length false true limit n g = refl
treat-length false false limit n g = search rules

sweep-place : (within : Bool) (limit : ℕ) (g : Ground) → ltb g.pool.sweeper (length g.cells) ≡ within → g.pool.sweeper ≤ length g.cells
    → (length (sweep_if within limit g).cells ≡ length g.cells) × ((sweep_if within limit g).pool.sweeper ≡ min (g.pool.sweeper + 1) (length g.cells))
sweep-place true limit g e l = search rules
sweep-place false limit g e l = search rules

pub sweeps-place : (limit k : ℕ) (g : Ground) → g.pool.sweeper ≤ length g.cells
    → (length (sweeps limit k g).cells ≡ length g.cells) × ((sweeps limit k g).pool.sweeper ≡ min (g.pool.sweeper + k) (length g.cells))
sweeps-place limit zero g l = (refl, omega arith)
sweeps-place limit (suc k) g l =
    let one = sweep-place (ltb g.pool.sweeper (length g.cells)) limit g refl l in
    let len : length (sweep limit g).cells ≡ length g.cells = one.0 in
    let place : (sweep limit g).pool.sweeper ≡ min (g.pool.sweeper + 1) (length g.cells) = one.1 in
    let rest = sweeps-place limit k (sweep limit g) (omega arith) in
    (rest.0 ∙ len, let r = rest.1 in omega arith)
