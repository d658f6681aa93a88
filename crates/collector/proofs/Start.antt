-- A new store has the invariant.
use Rattle.std.proofs.Common.{◌≡◌, ℕ, zero, suc, ◌+◌, ◌-◌, ◌<◌, false, List, length, replicate, sym, refl, ap, inl, inr, arith, rules}
use Rattle.std.specs.List.{range_with_len}
use Rattle.std.proofs.lemmas.List.FromFn.{length-range_with_len}
use Rattle.bank.specs.declared.word.Word.{Word}
use Rattle.bank.specs.declared.word.Cell.{Cell}
use Rattle.collector.specs.Lists.{Mem, Each}
use Rattle.collector.specs.States.{Fixed, State, at, first_word, linked, new, size}
use Rattle.collector.specs.Reach.{Reach, root, via, Reachable, Free}
use Rattle.collector.specs.Runs.{beginning}
use Rattle.collector.specs.Laws.{Grounded}
use Rattle.collector.proofs.Sets.{range-only, range_all, range-distinct}
use Rattle.collector.proofs.Cells.{reserved-within}
use Rattle.collector.proofs.Chains.{listed-is}
use Rattle.collector.proofs.Invariant.{Vacant, Sound, Links, Listed, Live, Inv}

-- A free cell of a new store, by what follows it.
abbrev fresh : ℕ → ℕ → Cell
fresh n k = record { car = first_word n k; cdr = Word.Reserved; mark = false }

pub linked-length : (a k : ℕ) → length (linked a k) ≡ k
linked-length a zero = refl
linked-length a (suc k) = ap suc (linked-length (suc a) k)

linked-at : (a k n : ℕ) → n < k → at (linked a k) n ≡ fresh (suc (a + n)) (k - suc n)
linked-at a zero n l = search rules
linked-at a (suc k) zero l = search rules
linked-at a (suc k) (suc n) l = search (rules, linked-at (suc a) k n (omega arith))

-- Every one of them is vacant.
pub linked-vacant : (a k n : ℕ) → n < k → Vacant (linked a k) n
linked-vacant a k n l = ap (λ (c : Cell). c.cdr) (linked-at a k n l)

links-new : (size n k : ℕ) → n + k ≡ size → Links (linked 0 size) (first_word n k) (range_with_len n k)
links-new size n zero e = refl
links-new size n (suc k) e = search (rules, linked-at 0 size n, links-new size (n + 1) k (omega arith))

each-replicate : {A : Type 0} (P : A → Type 0) (x : A) → P x → (k : ℕ) → Each P (replicate k x)
each-replicate P x p zero = tt
each-replicate P x p (suc k) = (p, each-replicate P x p k)

not-nil : (n k : ℕ) → Mem (Word.Cell n) (replicate k Word.Nil) → ⊥
not-nil n zero m = m
not-nil n (suc k) (inl e) = search rules
not-nil n (suc k) (inr m) = not-nil n k m

-- From registers that hold nil nothing is reached.
pub none-reached : (k : ℕ) (car cdr : ℕ → Word) (n : ℕ) → Reach (replicate k Word.Nil) car cdr n → ⊥
none-reached k car cdr n (root m) = not-nil n k m
none-reached k car cdr n (via {m = m} r e) = none-reached k car cdr m r

module _ {V : Type 0} (fixed : Fixed V) (N : ℕ) (grounded : Grounded fixed N) where
  abbrev s : State V
  s = new fixed N

  abbrev cs : List Cell
  cs = linked 0 N

  len : length cs ≡ N
  len = linked-length 0 N

  vacant-all : (n : ℕ) → n < length cs → Vacant cs n
  vacant-all n l = search (rules, linked-at 0 N n, len)

  pub listed-new : Listed cs (first_word 0 N) N (range_with_len 0 N)
  listed-new = search (rules, links-new, range-distinct, length-range_with_len, range-only, vacant-all, len, reserved-within, range_all)

  free_all : (n : ℕ) → n < N → Free s n
  free_all n l = rw (listed-is cs (first_word 0 N) N (range_with_len 0 N) listed-new) (range_all 0 N n (omega arith) (omega arith))

  none : (n : ℕ) → Reachable s n → ⊥
  none n r = search none-reached

  no-live : (p n : ℕ) → Live (Reachable s) (Free s) p cs n → ⊥
  no-live p n l = l.used (vacant-all n l.within)

  pub new-keeps : Inv (beginning s) s
  new-keeps = record {
    grounded = search (rules, len);
    core = record {
      closed = record {
        inside = λ n l. l.within;
        cars = λ n l. absurd (no-live N n l);
        cdrs = λ n l. absurd (no-live N n l);
        words = each-replicate (Sound fixed.atoms.limit (Live (Reachable s) (Free s) N cs)) Word.Nil tt 16;
      };
      fs = range_with_len 0 N;
      listed = listed-new;
      above = λ n v l. search (rules, free_all, reserved-within cs, len);
      past = search (rules, none);
      log = record { once = tt; only = λ n m. absurd m; all = λ n l nr nf. absurd (nf (free_all n l)); cover = λ n l. inr (inr (free_all n l)) };
    };
    phased = (sym len, search (rules, linked-at 0 N, len, no-live, none));
    same_size = refl;
    same-fixed = refl;
  }
