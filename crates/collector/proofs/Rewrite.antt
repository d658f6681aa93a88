-- A replaced word in the store is a replaced word in the endless heap.
use Rattle.std.proofs.Common.{◌≡◌, ℕ, ◌⊎◌, set, ◌∙◌, inl, inr, length-set, get_or-set_other, arith, rules}
use Rattle.std.proofs.lemmas.Bool.{cases_eq}
use Rattle.bank.specs.Words.{with_car, with_cdr}
use Rattle.bank.specs.declared.word.Word.{Word}
use Rattle.bank.specs.declared.word.Cell.{Cell}
use Rattle.collector.specs.States.{State, at}
use Rattle.collector.specs.Endless.{Pair, Endless, pair_at, with_first, with_second}
use Rattle.collector.specs.Reach.{root, via, ReachableIn}
use Rattle.collector.proofs.Agree.{rename, Agree}

-- A part of a cell and a part of a pair: both are the word that was put, or both are kept.
abbrev pub Alike : (Word → Cell → Cell) → (Word → Pair → Pair) → (Cell → Word) → (Pair → Word) → Type 0
Alike put put_pair field part =
    (((w : Word) (c : Cell) → field (put w c) ≡ w) × ((w : Word) (p : Pair) → part (put_pair w p) ≡ w))
    ⊎ (((w : Word) (c : Cell) → field (put w c) ≡ field c) × ((w : Word) (p : Pair) → part (put_pair w p) ≡ part p))

pub record Twins (put : Word → Cell → Cell) (put_pair : Word → Pair → Pair) : Type 0 where
  pub firsts : Alike put put_pair (λ c. c.car) (λ p. p.first)
  pub seconds : Alike put put_pair (λ c. c.cdr) (λ p. p.second)

pub car-twins : Twins with_car with_first
car-twins = search rules

pub cdr-twins : Twins with_cdr with_second
cdr-twins = search rules

module _ {V : Type 0} (put : Word → Cell → Cell) (put_pair : Word → Pair → Pair) (twins : Twins put put_pair) (f : ℕ → ℕ) (e : Endless) (s t : State V) (g : Agree f e s) (x0 : ℕ) (w : Word)
    (r0 : ReachableIn e x0) (rw0 : (x : ℕ) → w ≡ Word.Cell x → ReachableIn e x)
    (regs : t.registers ≡ s.registers)
    (here : ((at t.heap.cells (f x0)).car ≡ (put (rename f w) (at s.heap.cells (f x0))).car) × ((at t.heap.cells (f x0)).cdr ≡ (put (rename f w) (at s.heap.cells (f x0))).cdr))
    (elsewhere : (n : ℕ) → (n ≡ f x0 → ⊥) → ((at t.heap.cells n).car ≡ (at s.heap.cells n).car) × ((at t.heap.cells n).cdr ≡ (at s.heap.cells n).cdr)) where
  abbrev pub rewritten : Endless
  rewritten = record { registers = e.registers; pairs = set e.pairs x0 (put_pair w (pair_at e x0)) }

  pair-here : pair_at rewritten x0 ≡ put_pair w (pair_at e x0)
  pair-here = search rules

  pair-other : (x : ℕ) → (x ≡ x0 → ⊥) → pair_at rewritten x ≡ pair_at e x
  pair-other x ne = rw get_or-set_other

  goes : (field : Cell → Word) (part : Pair → Word) → Alike put put_pair field part → (m x : ℕ) → ReachableIn e m → ((y : ℕ) → part (pair_at e m) ≡ Word.Cell y → ReachableIn e y) → part (pair_at rewritten m) ≡ Word.Cell x → ReachableIn e x
  goes field part alike m x r on v = search rules

  pub reached-as-before : (x : ℕ) → ReachableIn rewritten x → ReachableIn e x
  reached-as-before x (root m) = root m
  reached-as-before x (via {m = m} q (inl v)) =
      let r = reached-as-before m q in goes (λ c. c.car) (λ p. p.first) twins.firsts m x r (λ y u. via r (inl u)) v
  reached-as-before x (via {m = m} q (inr v)) =
      let r = reached-as-before m q in goes (λ c. c.cdr) (λ p. p.second) twins.seconds m x r (λ y u. via r (inr u)) v

  field-agrees : (field : Cell → Word) (part : Pair → Word) → Alike put put_pair field part
      → field (at t.heap.cells (f x0)) ≡ field (put (rename f w) (at s.heap.cells (f x0)))
      → ((n : ℕ) → (n ≡ f x0 → ⊥) → field (at t.heap.cells n) ≡ field (at s.heap.cells n))
      → ((x : ℕ) → ReachableIn e x → field (at s.heap.cells (f x)) ≡ rename f (part (pair_at e x)))
      → (x : ℕ) → ReachableIn rewritten x → field (at t.heap.cells (f x)) ≡ rename f (part (pair_at rewritten x))
  field-agrees field part alike hr else old x k = grind (arith, reached-as-before, cases_eq, pair-here, pair-other)

  pub agree-rewritten : Agree f rewritten t
  agree-rewritten = record {
    registers = regs ∙ g.registers;
    firsts = field-agrees (λ c. c.car) (λ p. p.first) twins.firsts here.0 (λ n ne. (elsewhere n ne).0) g.firsts;
    seconds = field-agrees (λ c. c.cdr) (λ p. p.second) twins.seconds here.1 (λ n ne. (elsewhere n ne).1) g.seconds;
    inside = λ x k. let l = g.inside x (reached-as-before x k) in simp length-set l;
    apart = λ x y h k q. g.apart x y (reached-as-before x h) (reached-as-before y k) q;
  }
