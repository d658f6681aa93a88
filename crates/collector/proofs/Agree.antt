-- The store and the endless heap hold the same, under other numbers.
use Rattle.std.proofs.Common.{◌≡◌, ℕ, zero, suc, ◌<◌, List, [], ◌∷◌, map, length, get_or, set, sym, refl, ap, ◌∙◌, subst, inl, inr, rules}
use Rattle.std.proofs.lemmas.List.{map-set}
use Rattle.bank.specs.declared.word.Word.{Word}
use Rattle.collector.specs.Lists.{Mem, Distinct, Each, AtMost}
use Rattle.collector.specs.States.{Atoms, State, at}
use Rattle.collector.specs.Outcomes.{register, seen, same_word}
use Rattle.collector.specs.Calls.{with_register}
use Rattle.collector.specs.Endless.{Endless, pair_at, named}
use Rattle.collector.specs.Reach.{Reach, root, via, Reachable, ReachableIn}
use Rattle.collector.proofs.Sets.{mem-set}

-- A word of the endless heap in the store's numbers.
abbrev pub rename : (ℕ → ℕ) → Word → Word
rename f Word.Nil = Word.Nil
rename f (Word.Cell x) = Word.Cell (f x)
rename f (Word.Atom c) = Word.Atom c
rename f Word.Reserved = Word.Reserved

pub record Agree {V : Type 0} (f : ℕ → ℕ) (e : Endless) (s : State V) : Type 0 where
  pub registers : s.registers ≡ map (rename f) e.registers
  pub firsts : (x : ℕ) → ReachableIn e x → (at s.heap.cells (f x)).car ≡ rename f (pair_at e x).first
  pub seconds : (x : ℕ) → ReachableIn e x → (at s.heap.cells (f x)).cdr ≡ rename f (pair_at e x).second
  pub inside : (x : ℕ) → ReachableIn e x → x < length e.pairs
  pub apart : (x y : ℕ) → ReachableIn e x → ReachableIn e y → f x ≡ f y → x ≡ y

get_or-map-at : {A B : Type 0} (g : A → B) (xs : List A) (i : ℕ) (d : A) → get_or (map g xs) i (g d) ≡ g (get_or xs i d)
get_or-map-at g [] i d = refl
get_or-map-at g (x ∷ xs) zero d = refl
get_or-map-at g (x ∷ xs) (suc i) d = get_or-map-at g xs i d

mem-map : (f : ℕ → ℕ) (w : Word) (ws : List Word) → Mem w ws → Mem (rename f w) (map (rename f) ws)
mem-map f w [] m = m
mem-map f w (v ∷ vs) (inl e) = inl (ap (rename f) e)
mem-map f w (v ∷ vs) (inr m) = inr (mem-map f w vs m)

-- A word that is renamed to a cell names one.
was-cell : (f : ℕ → ℕ) (w : Word) (n : ℕ) → rename f w ≡ Word.Cell n → (x : ℕ) × (w ≡ Word.Cell x) × (f x ≡ n)
was-cell f w n e = search rules

mem-unmap : (f : ℕ → ℕ) (n : ℕ) (ws : List Word) → Mem (Word.Cell n) (map (rename f) ws) → (x : ℕ) × Mem (Word.Cell x) ws × (f x ≡ n)
mem-unmap f n [] m = absurd m
mem-unmap f n (v ∷ vs) (inl e) = search rules
mem-unmap f n (v ∷ vs) (inr m) = let r = mem-unmap f n vs m in (r.0, inr r.1, r.2)

-- A register that names a cell is a root.
pub register-root : (rs : List Word) (r x : ℕ) → register rs r ≡ Word.Cell x → Mem (Word.Cell x) rs
register-root [] r x e = search rules
register-root (w ∷ ws) zero x e = inl (sym e)
register-root (w ∷ ws) (suc r) x e = inr (register-root ws r x e)

-- Fewer roots reach less.
pub reach-sub : (ws vs : List Word) (car cdr : ℕ → Word) → ((n : ℕ) → Mem (Word.Cell n) ws → Reach vs car cdr n) → (n : ℕ) → Reach ws car cdr n → Reach vs car cdr n
reach-sub ws vs car cdr f n (root m) = f n m
reach-sub ws vs car cdr f n (via {m = m} r e) = via (reach-sub ws vs car cdr f m r) e

module _ {V : Type 0} {f : ℕ → ℕ} {e : Endless} {s : State V} (g : Agree f e s) where
  pub register-agrees : (r : ℕ) → register s.registers r ≡ rename f (register e.registers r)
  register-agrees r = ap (λ (ws : List Word). register ws r) g.registers ∙ get_or-map-at (rename f) e.registers r Word.Nil

  -- What the heap reaches, the store reaches.
  pub store-reaches : (x : ℕ) → ReachableIn e x → Reachable s (f x)
  store-reaches x (root m) = root (subst (Mem (Word.Cell (f x))) (sym g.registers) (mem-map f (Word.Cell x) e.registers m))
  store-reaches x (via {m = y} r (inl q)) = via (store-reaches y r) (inl (g.firsts y r ∙ ap (rename f) q))
  store-reaches x (via {m = y} r (inr q)) = via (store-reaches y r) (inr (g.seconds y r ∙ ap (rename f) q))

  -- And the other way round.
  pub heap-reaches : (n : ℕ) → Reachable s n → (x : ℕ) × ReachableIn e x × (f x ≡ n)
  heap-reaches n (root m) =
      let u = mem-unmap f n e.registers (subst (Mem (Word.Cell n)) g.registers m) in
      (u.0, root u.1, u.2)
  heap-reaches n (via {m = m} r (inl q)) =
      let u = heap-reaches m r in
      let w = was-cell f (pair_at e u.0).first n (sym (g.firsts u.0 u.1) ∙ ap (λ (k : ℕ). (at s.heap.cells k).car) u.2 ∙ q) in
      (w.0, via u.1 (inl w.1), w.2)
  heap-reaches n (via {m = m} r (inr q)) =
      let u = heap-reaches m r in
      let w = was-cell f (pair_at e u.0).second n (sym (g.seconds u.0 u.1) ∙ ap (λ (k : ℕ). (at s.heap.cells k).cdr) u.2 ∙ q) in
      (w.0, via u.1 (inr w.1), w.2)

  -- The cells of the heap behind a list of cells of the store.
  heap-cells : (ns : List ℕ) → Each (Reachable s) ns → (xs : List ℕ) × (map f xs ≡ ns) × Each (ReachableIn e) xs
  heap-cells [] h = ([], refl, tt)
  heap-cells (n ∷ ns) h =
      let u = heap-reaches n h.0 in
      let r = heap-cells ns h.1 in
      (u.0 ∷ r.0, ap (λ (k : ℕ). k ∷ map f r.0) u.2 ∙ ap (λ (ks : List ℕ). n ∷ ks) r.1, (u.1, r.2))

  mem-image : (x : ℕ) (xs : List ℕ) → Mem x xs → Mem (f x) (map f xs)
  mem-image x [] m = m
  mem-image x (y ∷ ys) (inl q) = inl (ap f q)
  mem-image x (y ∷ ys) (inr m) = inr (mem-image x ys m)

  distinct-back : (xs : List ℕ) → Distinct (map f xs) → Distinct xs
  distinct-back [] d = tt
  distinct-back (x ∷ xs) d = (λ m. d.0 (mem-image x xs m), distinct-back xs d.1)

  length-image : (xs : List ℕ) → length (map f xs) ≡ length xs
  length-image [] = refl
  length-image (x ∷ xs) = ap suc (length-image xs)

  -- A bound on what the heap reaches bounds what the store reaches.
  pub bound-carries : (A : ℕ) → AtMost A (ReachableIn e) → AtMost A (Reachable s)
  bound-carries A b ns d h = search (rules, heap-cells, distinct-back, length-image)

  -- A register is set on both sides.
  pub agree-named : (r : ℕ) (w : Word) → ((x : ℕ) → w ≡ Word.Cell x → ReachableIn e x) → Agree f (named r w e) (with_register r (rename f w) s)
  agree-named r w reached =
      let back : (x : ℕ) → ReachableIn (named r w e) x → ReachableIn e x = reach-sub (set e.registers r w) e.registers (λ y. (pair_at e y).first) (λ y. (pair_at e y).second)
      (λ n m. elim (mem-set (Word.Cell n) w e.registers r m) [ inl q ↦ reached n (sym q) | inr k ↦ root k ]) in
      record {
        registers = search (rules, r, rename, f, w, g.registers, map-set, e.registers);
        firsts = search rules;
        seconds = search rules;
        inside = search rules;
        apart = search rules;
      }

  -- What a register shows, and whether two hold the same.
  pub seen-agrees : (atoms : Atoms V) (w : Word) → seen atoms (rename f w) ≡ seen atoms w
  seen-agrees atoms w = search rules

  pub same-agrees : (v w : Word) → ((x : ℕ) → v ≡ Word.Cell x → ReachableIn e x) → ((x : ℕ) → w ≡ Word.Cell x → ReachableIn e x) → same_word (rename f v) (rename f w) ≡ same_word v w
  same-agrees v w hv hw = search rules
