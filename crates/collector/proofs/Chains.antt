-- The free list as a chain of cells.
use Rattle.std.proofs.Common.{◌≡◌, ℕ, zero, suc, ◌≤◌, List, [], ◌∷◌, length, refl, inr, arith, rules}
use Rattle.bank.specs.declared.word.Word.{Word}
use Rattle.bank.specs.Words.{number_of}
use Rattle.bank.specs.declared.word.Cell.{Cell}
use Rattle.collector.specs.Lists.{Mem}
use Rattle.collector.specs.States.{at}
use Rattle.collector.specs.Reach.{chain}
use Rattle.collector.proofs.Sets.{few-below}
use Rattle.collector.proofs.Cells.{reserved-within}
use Rattle.collector.proofs.Invariant.{Vacant, Links, Listed}

chain-is : (cs : List Cell) (k : ℕ) (w : Word) (fs : List ℕ) → Links cs w fs → length fs ≤ k → chain k cs w ≡ fs
chain-is cs zero w [] h l = refl
chain-is cs (suc k) w [] h l = search
chain-is cs zero w (n ∷ ns) h l = search rules
chain-is cs (suc k) w (n ∷ ns) h l = search (chain-is cs k (at cs n).car ns h.1 (omega arith))

pub listed-few : (cs : List Cell) (head : Word) (count : ℕ) (fs : List ℕ) → Listed cs head count fs → length fs ≤ length cs
listed-few cs head count fs h = search (rules, few-below, reserved-within)

pub listed-is : (cs : List Cell) (head : Word) (count : ℕ) (fs : List ℕ) → Listed cs head count fs → chain (length cs) cs head ≡ fs
listed-is cs head count fs h = search (chain-is, listed-few)

-- The chain carries over where the cars of its cells do.
pub links-on : (cs ds : List Cell) (w : Word) (fs : List ℕ) → ((n : ℕ) → Mem n fs → (at ds n).car ≡ (at cs n).car) → Links cs w fs → Links ds w fs
links-on cs ds w [] e h = h
links-on cs ds w (n ∷ ns) e h = search (rules, links-on cs ds (at cs n).car ns (λ m i. e m (inr i)) h.1)

-- The first word of the free list fits every bank.
head-fits : (cs : List Cell) (head : Word) (fs : List ℕ) → Links cs head fs → ((n : ℕ) → Mem n fs → Vacant cs n) → length cs ≤ 4096 → number_of head ≤ 4095
head-fits cs head [] h v few = search rules
head-fits cs head (n ∷ ns) h v few = search (rules, reserved-within)

pub listed-fits : (cs : List Cell) (head : Word) (count : ℕ) (fs : List ℕ) → Listed cs head count fs → length cs ≤ 4096 → (limit : ℕ) → 4095 ≤ limit → number_of head ≤ limit
listed-fits cs head count fs h few limit wide = search (rules, head-fits)
