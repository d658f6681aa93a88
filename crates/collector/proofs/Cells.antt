-- Reading cells after a change of one.
use Rattle.std.proofs.Common.{◌≡◌, ℕ, ◌<◌, ◌≤◌, false, ◌≢◌, List, length, ap, length-set, get_or-set_other, get_or-set_same, rules}
use Rattle.std.proofs.lemmas.List.{get_or_default, get_or_past, set_past}
use Rattle.std.proofs.lemmas.Bool.{cases_eq, cases_lt}
use Rattle.bank.specs.Words.{blank, number_of}
use Rattle.bank.specs.Banks.{changed, word_put}
use Rattle.bank.specs.declared.word.Word.{Word}
use Rattle.bank.specs.declared.word.Cell.{Cell}
use Rattle.collector.specs.States.{at, dead}

pub changed-length : (f : Cell → Cell) (cs : List Cell) (n : ℕ) → length (changed f cs n) ≡ length cs
changed-length f cs n = simp length-set

pub changed-here : (f : Cell → Cell) (cs : List Cell) (n : ℕ) → n < length cs → at (changed f cs n) n ≡ f (at cs n)
changed-here f cs n l = rw get_or-set_same (ap f (get_or_default cs n blank dead l))

pub changed-other : (f : Cell → Cell) (cs : List Cell) (n m : ℕ) → m ≢ n → at (changed f cs n) m ≡ at cs m
changed-other f cs n m ne = rw get_or-set_other

pub changed-past : (f : Cell → Cell) (cs : List Cell) (n : ℕ) → length cs ≤ n → changed f cs n ≡ cs
changed-past f cs n l = set_past cs n _ l

-- A reading that the change keeps is the same everywhere.
pub reads_same : {X : Type 0} (g : Cell → X) (f : Cell → Cell) → ((c : Cell) → g (f c) ≡ g c) → (cs : List Cell) (n m : ℕ) → g (at (changed f cs n) m) ≡ g (at cs m)
reads_same g f keeps cs n m = search (rules, cases_lt, cases_eq, changed-here, changed-other, changed-past)

-- A word that fits is put in place.
pub put-fits : (put : Word → Cell → Cell) (limit : ℕ) (cs : List Cell) (n : ℕ) (w : Word) → number_of w ≤ limit → word_put put limit cs n w ≡ changed (put w) cs n
put-fits put limit cs n w l = search rules

-- What is unmarked lies within the bank.
pub unmarked-within : (cs : List Cell) (n : ℕ) → (at cs n).mark ≡ false → n < length cs
unmarked-within cs n e = search (rules, cases_lt, get_or_past)

-- So does what is reserved.
pub reserved-within : (cs : List Cell) (n : ℕ) → (at cs n).cdr ≡ Word.Reserved → n < length cs
reserved-within cs n e = search (rules, cases_lt, get_or_past)
