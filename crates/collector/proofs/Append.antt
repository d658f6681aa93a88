-- A new cell in the store is a new cell in the endless heap.
use Rattle.std.proofs.Common.{◌≡◌, ℕ, ◌<◌, cond, eqb, ◌⊎◌, List, [], ◌∷◌, map, length, set, sym, refl, ap, ◌∙◌, inl, inr, arith, rules}
use Rattle.std.proofs.lemmas.List.{map-set, get_or_append_left, get_or_push, length_push}
use Rattle.bank.specs.declared.word.Word.{Word}
use Rattle.bank.specs.declared.word.Cell.{Cell}
use Rattle.collector.specs.Lists.{Mem}
use Rattle.collector.specs.States.{State, at}
use Rattle.collector.specs.Endless.{Pair, Endless, pair_at, appended}
use Rattle.collector.specs.Reach.{root, via, ReachableIn}
use Rattle.collector.proofs.Sets.{mem-set}
use Rattle.collector.proofs.Agree.{rename, Agree}

-- The naming with one number more.
abbrev pub named-too : (ℕ → ℕ) → ℕ → ℕ → ℕ → ℕ
named-too f x0 h x = cond (eqb x x0) h (f x)

module _ (f : ℕ → ℕ) (x0 h : ℕ) where
  named_new : (x : ℕ) → x ≡ x0 → named-too f x0 h x ≡ h
  named_new x e = search rules

  named-old : (x : ℕ) → (x ≡ x0 → ⊥) → named-too f x0 h x ≡ f x
  named-old x ne = search rules

  rename-old : (w : Word) → ((x : ℕ) → w ≡ Word.Cell x → x < x0) → rename (named-too f x0 h) w ≡ rename f w
  rename-old w b = search rules

  rename-all : (ws : List Word) → ((x : ℕ) → Mem (Word.Cell x) ws → x < x0) → map (rename (named-too f x0 h)) ws ≡ map (rename f) ws
  rename-all [] b = refl
  rename-all (w ∷ ws) b =
      ap (λ (v : Word). v ∷ map (rename (named-too f x0 h)) ws) (rename-old w (λ x e. b x (inl (sym e))))
      ∙ ap (λ (vs : List Word). rename f w ∷ vs) (rename-all ws (λ x m. b x (inr m)))

-- What one more cell of the heap needs of the store's new cell.
pub record Fresh {V : Type 0} (f : ℕ → ℕ) (e : Endless) (s t : State V) (h : ℕ) (wa wb : Word) : Type 0 where
  pub unreached : (x : ℕ) → ReachableIn e x → f x ≡ h → ⊥
  pub here : ((at t.heap.cells h).car ≡ rename f wa) × ((at t.heap.cells h).cdr ≡ rename f wb)
  pub elsewhere : (n : ℕ) → (n ≡ h → ⊥) → at t.heap.cells n ≡ at s.heap.cells n

module _ {V : Type 0} (f : ℕ → ℕ) (e : Endless) (s t : State V) (g : Agree f e s) (h r : ℕ) (wa wb : Word)
    (fresh : Fresh f e s t h wa wb) (ra : (x : ℕ) → wa ≡ Word.Cell x → ReachableIn e x) (rb : (x : ℕ) → wb ≡ Word.Cell x → ReachableIn e x) (regs : t.registers ≡ set s.registers r (Word.Cell h)) where
  abbrev x0 : ℕ
  x0 = length e.pairs

  abbrev e' : Endless
  e' = appended r wa wb e

  abbrev f' : ℕ → ℕ
  f' = named-too f x0 h

  new-pair : pair_at e' x0 ≡ record { first = wa; second = wb }
  new-pair = search get_or_push

  old-pair : (x : ℕ) → x < x0 → pair_at e' x ≡ pair_at e x
  old-pair x l = search get_or_append_left

  target : (x m : ℕ) (field : Pair → Word) → (m ≡ x0) ⊎ ReachableIn e m → field (pair_at e' m) ≡ Word.Cell x → (field (record { first = wa; second = wb }) ≡ Word.Cell x → ReachableIn e x) → (ReachableIn e m → field (pair_at e m) ≡ Word.Cell x → ReachableIn e x) → ReachableIn e x
  target x m field either w new old = search (rules, new-pair, old-pair)

  -- What the heap reaches now is the new cell or was reached before.
  pub reached-before : (x : ℕ) → ReachableIn e' x → (x ≡ x0) ⊎ ReachableIn e x
  reached-before x (root m) =
      elim (mem-set (Word.Cell x) (Word.Cell x0) e.registers r m) [
        | inl q ↦ inl (cc)
        | inr k ↦ inr (root k)
      ]
  reached-before x (via {m = m} q (inl w)) =
      inr (target x m (λ p. p.first) (reached-before m q) w (λ k. ra x k) (λ k v. via k (inl v)))
  reached-before x (via {m = m} q (inr w)) =
      inr (target x m (λ p. p.second) (reached-before m q) w (λ k. rb x k) (λ k v. via k (inr v)))

  below : (w : Word) → ((x : ℕ) → w ≡ Word.Cell x → ReachableIn e x) → rename f' w ≡ rename f w
  below w k = search rules

  apart-new : (x : ℕ) → ReachableIn e x → x ≡ x0 → ⊥
  apart-new x k q = search rules

  field-agrees : (field : Cell → Word) (part : Pair → Word) → field (at t.heap.cells h) ≡ rename f (part (record { first = wa; second = wb }))
      → ((x : ℕ) → part (record { first = wa; second = wb }) ≡ Word.Cell x → ReachableIn e x)
      → ((x : ℕ) → ReachableIn e x → field (at s.heap.cells (f x)) ≡ rename f (part (pair_at e x)))
      → ((x y : ℕ) → ReachableIn e x → part (pair_at e x) ≡ Word.Cell y → ReachableIn e y)
      → (x : ℕ) → ReachableIn e' x → field (at t.heap.cells (f' x)) ≡ rename f' (part (pair_at e' x))
  field-agrees field part new reached old on x k = search (rules, reached-before, named_new, below, new-pair, named-old, apart-new, old-pair)

  pub agree-appended : Agree f' e' t
  agree-appended = record {
    registers = regs ∙ ap (λ (ws : List Word). set ws r (Word.Cell h)) g.registers
        ∙ ap (λ (ws : List Word). set ws r (Word.Cell h)) (sym (rename-all f x0 h e.registers (λ x m. g.inside x (root m))))
        ∙ ap (λ (n : ℕ). set (map (rename f') e.registers) r (Word.Cell n)) (sym (named_new f x0 h x0 refl))
        ∙ sym (map-set (rename f') e.registers r (Word.Cell x0));
    firsts = field-agrees (λ c. c.car) (λ p. p.first) fresh.here.0 ra g.firsts (λ x y k v. via k (inl v));
    seconds = field-agrees (λ c. c.cdr) (λ p. p.second) fresh.here.1 rb g.seconds (λ x y k v. via k (inr v));
    inside = λ x k. let lp = length_push e.pairs (record { first = wa; second = wb }) in elim (reached-before x k) [ inl q ↦ omega arith | inr k' ↦ search rules ];
    apart = search (rules, reached-before, fresh.unreached, named-old, f, x0, h, apart-new, named_new, g.apart);
  }
