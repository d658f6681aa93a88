-- The elements of a memory that hold cells, under a write and when they are cleared.
use Rattle.std.proofs.Common.{◌≡◌, ℕ, ◌<◌, min, List, ◌++◌, length, get_or, take, drop, set, replicate, sym, ap, ◌∙◌, arith}
use native.Mathlib.Nat.{min_comm}
use Rattle.std.proofs.lemmas.Grind.{common_steps}
use Rattle.std.proofs.lemmas.List.{length-take, get_or-take, take-append-drop, set-append_left, drop-set-lt}
use Rattle.bank.proofs.Writes.{take-set-any}
use Rattle.memory.specs.Memories.{front, later, over, cleared}

pub length_front : {X : Type 0} (m : List X) → length (front m) ≡ min (length m) 4096
unfolding front
length_front m = length-take 4096 m ∙ min_comm 4096 (length m)

pub within-front : {X : Type 0} (m : List X) (n : ℕ) → n < length (front m) → n < length m
within-front m n h = omega (arith, length_front m)

pub get_or-front : {X : Type 0} (m : List X) (n : ℕ) (d : X) → n < length (front m) → get_or m n d ≡ get_or (front m) n d
unfolding front
get_or-front m n d h = sym (get_or-take 4096 m n d (omega (arith, length_front m)))

pub over-front : {X : Type 0} (m : List X) → m ≡ over (front m) m
unfolding front later over
over-front m = sym (take-append-drop 4096 m)

pub set-over : {X : Type 0} (m : List X) (n : ℕ) (x : X) → n < length (front m) → set m n x ≡ over (set (front m) n x) m
unfolding front later over
set-over m n x h = ap (λ l. set l n x) (sym (take-append-drop 4096 m)) ∙ set-append_left (take 4096 m) (drop 4096 m) n x h

-- as many elements as there were: the later ones are not moved
front-over-at : {X : Type 0} (k : ℕ) (xs m : List X) → length xs ≡ length (take k m) → take k (xs ++ drop k m) ≡ xs
front-over-at k xs m e = grind (arith, common_steps)

pub front-over : {X : Type 0} (xs m : List X) → length xs ≡ length (front m) → front (over xs m) ≡ xs
unfolding front later over
front-over xs m e = front-over-at 4096 xs m e

pub front-set : {X : Type 0} (m : List X) (n : ℕ) (x : X) → front (set m n x) ≡ set (front m) n x
unfolding front
front-set m n x = take-set-any 4096 m n x

pub later-set : {X : Type 0} (m : List X) (n : ℕ) (x : X) → n < length (front m) → later (set m n x) ≡ later m
unfolding later
later-set m n x h = drop-set-lt 4096 m n x (omega (arith, length_front m))

drop-least : {X : Type 0} (m : List X) (k : ℕ) → drop (min (length m) k) m ≡ drop k m
drop-least m k = grind (arith, common_steps)

-- The front filled with x, and the rest as it was.
pub filled : {X : Type 0} (m part : List X) (n : ℕ) (x : X) → n ≡ min (length m) 4096 → part ≡ replicate (length (take n m)) x → part ++ drop n m ≡ cleared x m
unfolding later over cleared
filled m part n x least is =
    let count : length (take n m) ≡ min 4096 (length m) = omega (arith, length-take n m) in
    let rest : drop n m ≡ drop 4096 m = ap (λ j. drop j m) least ∙ drop-least m 4096 in
    ap (λ l. l ++ drop n m) (is ∙ ap (λ k. replicate k x) count) ∙ ap (λ l. replicate (min 4096 (length m)) x ++ l) rest

later-cleared-at : {X : Type 0} (k : ℕ) (x : X) (m : List X) → drop k (replicate (min k (length m)) x ++ drop k m) ≡ drop k m
later-cleared-at k x m = grind (arith, common_steps)

pub later-cleared : {X : Type 0} (x : X) (m : List X) → later (cleared x m) ≡ later m
unfolding later over cleared
later-cleared x m = later-cleared-at 4096 x m

pub front-cleared : {X : Type 0} (x : X) (m : List X) → front (cleared x m) ≡ replicate (min 4096 (length m)) x
unfolding cleared
front-cleared x m = grind (arith, common_steps, front-over, length_front m)
