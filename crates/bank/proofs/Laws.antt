-- What follows from an answer of a bank, and what its cells are after a write.
use Rattle.std.proofs.Common.{◌≡◌, ℕ, ◌<◌, ◌≤◌, Bool, true, false, List, length, get_or, set, Ok, Err, Result, arith}
use Rattle.std.proofs.lemmas.Grind.{common_steps, get_or-set_at}
use Rattle.std.proofs.lemmas.List.{length-set, set_past, set-set}
use Rattle.std.proofs.lemmas.Bool.{lt-ltb, le-ltb}
use Rattle.bank.specs.declared.word.Word.{Word}
use Rattle.bank.specs.declared.word.Cell.{Cell}
use Rattle.bank.specs.declared.word.Change.{Change}
use Rattle.bank.specs.declared.fault.BankFault.{BankFault}
use Rattle.bank.specs.Words.{number_of, blank, with_car, with_cdr, with_mark}
use Rattle.bank.specs.Banks.{fits, on_cell, taken, asked, writable, word_taken, mark_taken, changed, word_put, change_taken, change_put, cell_put}

-- A call on a cell that there is, and on one that there is not.
pub on_cell-here : {A : Type 0} (cells : List Cell) (n : ℕ) (r : Result A BankFault) → n < length cells → on_cell cells n r ≡ r
on_cell-here cells n r h = rw (lt-ltb n (length cells) h)

pub on_cell-past : {A : Type 0} (cells : List Cell) (n : ℕ) (r : Result A BankFault) → length cells ≤ n → on_cell cells n r ≡ Err (BankFault.NoSuchCell n)
on_cell-past cells n r h = rw (le-ltb n (length cells) h)

-- What an answer tells.
pub taken-told : {A : Type 0} (limit : ℕ) (w : Word) (y x : A) → Ok x ≡ taken limit w (Ok y) → fits limit w ≡ true
taken-told limit w y x e = grind (arith, common_steps)

pub taken_refused : {A : Type 0} (limit : ℕ) (w : Word) (y : A) (d : BankFault) → Err d ≡ taken limit w (Ok y) → (fits limit w ≡ false) × (d ≡ BankFault.WordTooWide (number_of w))
taken_refused limit w y d e = grind (arith, common_steps)

pub on_cell-told : {A : Type 0} (cells : List Cell) (n : ℕ) (y x : A) → Ok x ≡ on_cell cells n (Ok y) → (n < length cells) × (x ≡ y)
on_cell-told cells n y x e = grind (arith, common_steps)

pub on_cell-refused : {A : Type 0} (cells : List Cell) (n : ℕ) (y : A) (d : BankFault) → Err d ≡ on_cell cells n (Ok y) → (length cells ≤ n) × (d ≡ BankFault.NoSuchCell n)
on_cell-refused cells n y d e = grind (arith, common_steps)

pub asked-ok : (cells : List Cell) (n : ℕ) (c : Cell) → Ok c ≡ asked cells n → (n < length cells) × (c ≡ get_or cells n blank)
asked-ok cells n c e = on_cell-told cells n (get_or cells n blank) c e

pub writable-ok : (limit : ℕ) (cells : List Cell) (n : ℕ) (w : Word) (c : Cell) → Ok c ≡ writable limit cells n w → (n < length cells) × (fits limit w ≡ true) × (c ≡ get_or cells n blank)
writable-ok limit cells n w c e = grind (arith, common_steps)

-- A write after asking whether it may be made: it may, and puts f of the cell that was told.
pub put-took : (put : Word → Cell → Cell) (limit : ℕ) (cells : List Cell) (n : ℕ) (w : Word) (c : Cell) → Ok c ≡ writable limit cells n w → (Ok tt ≡ word_taken limit cells n w) × (set cells n (put w c) ≡ word_put put limit cells n w)
put-took put limit cells n w c e = grind (arith, common_steps)

pub mark-took : (f : Cell → Cell) (cells : List Cell) (n : ℕ) (c : Cell) → Ok c ≡ asked cells n → (Ok tt ≡ mark_taken cells n) × (set cells n (f c) ≡ changed f cells n)
mark-took f cells n c e = grind (arith, common_steps)

-- A change of the mark brings nil, which fits every limit.
pub mark-taken : (limit : ℕ) (cells : List Cell) (n : ℕ) (m : Bool) → change_taken limit cells n (Change.Mark m) ≡ mark_taken cells n
mark-taken limit cells n m = grind (arith, common_steps)

pub mark-put : (limit : ℕ) (cells : List Cell) (n : ℕ) (m : Bool) → change_put limit cells n (Change.Mark m) ≡ changed (with_mark m) cells n
mark-put limit cells n m = grind (arith, common_steps)

-- A write where there is no such cell.
pub changed-past : (f : Cell → Cell) (cells : List Cell) (n : ℕ) → length cells ≤ n → changed f cells n ≡ cells
changed-past f cells n h = set_past cells n _ h

pub put-past : (put : Word → Cell → Cell) (limit : ℕ) (cells : List Cell) (n : ℕ) (w : Word) → length cells ≤ n → cells ≡ word_put put limit cells n w
put-past put limit cells n w h = grind (arith, common_steps, changed-past (put w) cells n h)

-- A write after asking whether it may be made: it may not, and nothing is written.
pub put_refused : (put : Word → Cell → Cell) (limit : ℕ) (cells : List Cell) (n : ℕ) (w : Word) (d : BankFault) → Err d ≡ writable limit cells n w → (Err d ≡ word_taken limit cells n w) × (cells ≡ word_put put limit cells n w)
put_refused put limit cells n w d e = grind (arith, common_steps, changed-past)

pub mark-refused : (f : Cell → Cell) (cells : List Cell) (n : ℕ) (d : BankFault) → Err d ≡ asked cells n → (Err d ≡ mark_taken cells n) × (cells ≡ changed f cells n)
mark-refused f cells n d e = grind (arith, common_steps, changed-past)

-- Two writes to one cell.
pub changed-changed : (f h : Cell → Cell) (cells : List Cell) (n : ℕ) → changed h (changed f cells n) n ≡ changed (λ c. h (f c)) cells n
changed-changed f h cells n = grind (arith, common_steps, set-set, set_past, get_or-set_at)

-- The size stays.
pub length-changed : (f : Cell → Cell) (cells : List Cell) (n : ℕ) → length (changed f cells n) ≡ length cells
length-changed f cells n = length-set cells n _

pub length-put : (put : Word → Cell → Cell) (limit : ℕ) (cells : List Cell) (n : ℕ) (w : Word) → length (word_put put limit cells n w) ≡ length cells
length-put put limit cells n w = grind (arith, common_steps)

-- A word for a cell that is there.
pub word_taken-here : (limit : ℕ) (cells : List Cell) (n : ℕ) (w : Word) → n < length cells → fits limit w ≡ true → word_taken limit cells n w ≡ Ok tt
word_taken-here limit cells n w h t = rw (lt-ltb n (length cells) h, t)

pub put-here : (put : Word → Cell → Cell) (limit : ℕ) (cells : List Cell) (n : ℕ) (w : Word) → fits limit w ≡ true → word_put put limit cells n w ≡ changed (put w) cells n
put-here put limit cells n w t = rw t

-- Three writes of a cell, of the words that fit and of the mark, are one.
pub three_puts : (limit : ℕ) (c : Cell) (cells : List Cell) (n : ℕ) → change_put limit (change_put limit (change_put limit cells n (Change.Car c.car)) n (Change.Cdr c.cdr)) n (Change.Mark c.mark) ≡ cell_put limit cells n c
three_puts limit c cells n =
    let car = with_car c.car in
    let cdr = with_cdr c.cdr in
    let mark = with_mark c.mark in
    grind (arith, common_steps, changed-changed car cdr cells n, changed-changed (λ x. cdr (car x)) mark cells n, changed-changed car mark cells n, changed-changed cdr mark cells n)

-- A whole cell whose words fit.
pub cell_put-whole : (limit : ℕ) (cells : List Cell) (n : ℕ) (c : Cell) → fits limit c.car ≡ true → fits limit c.cdr ≡ true → cell_put limit cells n c ≡ set cells n c
cell_put-whole limit cells n c t u = rw (t, u)
