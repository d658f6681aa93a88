-- Chains: what a bank takes, and what stands in its cells.
use Rattle.std.proofs.lemmas.Grind.{common_steps}
use Rattle.std.proofs.Common.{◌≡◌, ℕ, zero, suc, ◌+◌, ◌<◌, ◌≤◌, Bool, true, false, cond, ltb, List, [], ◌∷◌, ◌++◌, length, get_or, drop, set, Ok, Err, sym, refl, ap, ◌∙◌, arith}
use lib.Seq.{paste}
use Rattle.std.proofs.lemmas.List.Edits.{paste_more}
use Rattle.bank.specs.declared.word.Word.{Word}
use Rattle.bank.specs.declared.word.Cell.{Cell}
use Rattle.bank.specs.declared.fault.BankFault.{BankFault}
use Rattle.bank.specs.Words.{blank}
use Rattle.bank.specs.Banks.{fits, taken, cell_put}
use Rattle.bank.proofs.Laws.{cell_put-whole}
use Rattle.chains.specs.Chains.{link, link_before, chain, chain_taken, atom_in, atoms_from}

pub length-chain : (n : ℕ) (xs : List ℕ) → length (chain n xs) ≡ length xs
length-chain n [] = refl
length-chain n (a ∷ xs) = ap suc (length-chain (suc n) xs)

-- The k-th cell of a chain.
abbrev pub cell_at : ℕ → ℕ → ℕ → Cell
cell_at a n next = record { car = Word.Atom a; cdr = link_before next n; mark = false }

cdr-last : (n : ℕ) (xs : List ℕ) → link n xs ≡ link_before (n + length (0 ∷ xs)) n
cdr-last n [] = grind (arith, common_steps)
cdr-last n (b ∷ xs) = grind (arith, common_steps)

pub get_or-chain : (n : ℕ) (xs : List ℕ) (k next i : ℕ) → k < length xs → next ≡ n + length xs → i ≡ n + k → get_or (chain n xs) k blank ≡ cell_at (get_or xs k 0) i next
get_or-chain n [] k next i h e f = let no : ⊥ = omega arith in absurd no
get_or-chain n (a ∷ xs) zero next i h e f =
    let at : i ≡ n = omega arith in
    let end : next ≡ n + length (0 ∷ xs) = e in
    ap (λ w. record { car = Word.Atom a; cdr = w; mark = false }) (cdr-last n xs ∙ ap (λ m. link_before m n) (sym end))
    ∙ ap (λ m. cell_at a m next) (sym at)
get_or-chain n (a ∷ xs) (suc k) next i h e f = get_or-chain (suc n) xs k next i (omega arith) (omega arith) (omega arith)

-- A chain that is taken.
pub record Takes (limit size n : ℕ) (xs : List ℕ) (next : ℕ) : Type 0 where
  pub next-is : next ≡ n + length xs
  pub each : (k : ℕ) → k < length xs → (n + k < size) × (fits limit (Word.Atom (get_or xs k 0)) ≡ true)

takes-more : (limit size n a next : ℕ) (xs : List ℕ) → n < size → fits limit (Word.Atom a) ≡ true → Takes limit size (suc n) xs next → Takes limit size n (a ∷ xs) next
takes-more limit size n a next xs here fit rest = record {
  next-is = let e = rest.next-is in omega arith;
  each = λ k h. takes_at k h;
}
  where
    takes_at : (k : ℕ) → k < suc (length xs) → (n + k < size) × (fits limit (Word.Atom (get_or (a ∷ xs) k 0)) ≡ true)
    takes_at zero h = (omega arith, fit)
    takes_at (suc k) h = let p = rest.each k (omega arith) in (omega (arith, p.0), p.1)

takes-in : (b q : Bool) (limit size n a next : ℕ) (xs : List ℕ) → ((r : Ok next ≡ chain_taken limit size (suc n) xs) → Takes limit size (suc n) xs next) → ltb n size ≡ b → fits limit (Word.Atom a) ≡ q → Ok next ≡ cond b (cond q (chain_taken limit size (suc n) xs) (Err (BankFault.WordTooWide a))) (Err (BankFault.NoSuchCell n)) → Takes limit size n (a ∷ xs) next
takes-in b q limit size n a next xs more t u e = grind (arith, common_steps, takes-more, more)

pub chain-takes : (limit size n next : ℕ) (xs : List ℕ) → Ok next ≡ chain_taken limit size n xs → Takes limit size n xs next
chain-takes limit size n next [] e = record { next-is = let f : next ≡ n = cc in omega arith; each = λ k h. let no : ⊥ = omega arith in absurd no }
chain-takes limit size n next (a ∷ xs) e = takes-in (ltb n size) (fits limit (Word.Atom a)) limit size n a next xs (chain-takes limit size (suc n) next xs) refl refl e

pub ruleset of_writing = (chain-takes)

-- One atom of a chain looked at.
check-at : (limit size n : ℕ) (xs : List ℕ) (i : ℕ) → i < length xs → chain_taken limit size n (drop i xs) ≡ cond (ltb n size) (taken limit (Word.Atom (get_or xs i 0)) (chain_taken limit size (suc n) (drop (i + 1) xs))) (Err (BankFault.NoSuchCell n))
check-at limit size n xs i h = grind (arith, common_steps)

pub check-more : (limit size n : ℕ) (xs : List ℕ) (i : ℕ) → i < length xs → n < size → fits limit (Word.Atom (get_or xs i 0)) ≡ true → chain_taken limit size (n + 1) (drop (i + 1) xs) ≡ chain_taken limit size n (drop i xs)
check-more limit size n xs i h here fit = grind (arith, common_steps)

pub check-past : (limit size n : ℕ) (xs : List ℕ) (i : ℕ) → i < length xs → size ≤ n → Err (BankFault.NoSuchCell n) ≡ chain_taken limit size n (drop i xs)
check-past limit size n xs i h past = grind (arith, common_steps, check-at limit size n xs i h)

pub check-wide : (limit size n : ℕ) (xs : List ℕ) (i : ℕ) → i < length xs → n < size → fits limit (Word.Atom (get_or xs i 0)) ≡ false → Err (BankFault.WordTooWide (get_or xs i 0)) ≡ chain_taken limit size n (drop i xs)
check-wide limit size n xs i h here unfit = grind (arith, common_steps)

pub ruleset of_checking = (check-more, check-past, check-wide)

-- One cell of a chain read.
pub none_from : (k : ℕ) (cells : List Cell) (w : Word) → ((n : ℕ) → w ≡ Word.Cell n → ⊥) → atoms_from k cells w ≡ []
none_from zero cells w other = refl
none_from (suc k) cells Word.Nil other = refl
none_from (suc k) cells (Word.Cell n) other = absurd (other n refl)
none_from (suc k) cells (Word.Atom c) other = refl
none_from (suc k) cells Word.Reserved other = refl

pub past-from : (k : ℕ) (cells : List Cell) (w : Word) (n : ℕ) → w ≡ Word.Cell n → length cells ≤ n → atoms_from k cells w ≡ []
past-from zero cells w n e past = refl
past-from (suc k) cells w n e past = grind (arith, common_steps)

pub more-from : (fuel k : ℕ) (cells : List Cell) (w : Word) (n : ℕ) (c : Cell) → w ≡ Word.Cell n → fuel ≡ suc k → n < length cells → c ≡ get_or cells n blank → atoms_from fuel cells w ≡ atom_in c.car ++ atoms_from k cells c.cdr
more-from fuel k cells w n c e f here is = grind (arith, common_steps)

pub no-atom : (w : Word) → ((c : ℕ) → w ≡ Word.Atom c → ⊥) → atom_in w ≡ []
no-atom Word.Nil other = refl
no-atom (Word.Cell n) other = refl
no-atom (Word.Atom c) other = absurd (other c refl)
no-atom Word.Reserved other = refl

pub read_more : (was seen : List ℕ) (rest left total : List ℕ) (new : List ℕ) → seen ≡ was ++ new → was ++ left ≡ total → left ≡ new ++ rest → seen ++ rest ≡ total
read_more was seen rest left total new is so more = grind (arith, common_steps)

pub read_all : (was left total : List ℕ) → was ++ left ≡ total → left ≡ [] → was ≡ total
read_all was left total so none = grind (arith, common_steps)

-- One cell of a chain written.
cdr-fits : (limit size from next : ℕ) (xs : List ℕ) (i : ℕ) → Takes limit size from xs next → size ≤ 4096 → 4095 ≤ limit → (b : Bool) → ltb (from + i + 1) next ≡ b → fits limit (cond b (Word.Cell (from + i + 1)) Word.Nil) ≡ true
cdr-fits limit size from next xs i takes few wide b t = grind (arith, common_steps, takes.next-is, takes.each)

pub chain-step : (limit size from next : ℕ) (xs : List ℕ) (cells was after : List Cell) (i : ℕ) (w : Word) → Takes limit size from xs next → size ≡ length cells → size ≤ 4096 → 4095 ≤ limit → i < length xs → w ≡ link_before next (from + i) → was ≡ paste cells from (chain from xs) i → after ≡ cell_put limit was (from + i) (record { car = Word.Atom (get_or xs i 0); cdr = w; mark = false }) → after ≡ paste cells from (chain from xs) (i + 1)
chain-step limit size from next xs cells was after i w takes long few wide h w-is was-is after_is =
    let fit = (takes.each i h).1 in
    let here : from + i < length cells = omega (arith, (takes.each i h).0) in
    let in-chain : i < length (chain from xs) = omega (arith, length-chain from xs) in
    let next_fits = cdr-fits limit size from next xs i takes few wide (ltb (from + i + 1) next) refl in
    after_is
    ∙ ap (λ v. cell_put limit was (from + i) (record { car = Word.Atom (get_or xs i 0); cdr = v; mark = false })) w-is
    ∙ cell_put-whole limit was (from + i) (cell_at (get_or xs i 0) (from + i) next) fit next_fits
    ∙ ap (set was (from + i)) (sym (get_or-chain from xs i next (from + i) h takes.next-is refl))
    ∙ ap (λ l. set l (from + i) (get_or (chain from xs) i blank)) was-is
    ∙ paste_more cells from (chain from xs) i blank here in-chain
