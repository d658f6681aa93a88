-- What the parts of a cell are.
use Rattle.std.specs.Prelude.{ℕ, Bool, false}
use Rattle.bank.specs.declared.word.Word.{Word}
use Rattle.bank.specs.declared.word.Cell.{Cell}
use Rattle.bank.specs.declared.word.Change.{Change}

abbrev pub number_of : Word → ℕ
number_of Word.Nil = 0
number_of (Word.Cell n) = n
number_of (Word.Atom c) = c
number_of Word.Reserved = 0

abbrev pub blank : Cell
blank = record { car = Word.Nil; cdr = Word.Nil; mark = false }

-- A cell with one field replaced.
abbrev pub with_car : Word → Cell → Cell
with_car w c = record { car = w; cdr = c.cdr; mark = c.mark }

abbrev pub with_cdr : Word → Cell → Cell
with_cdr w c = record { car = c.car; cdr = w; mark = c.mark }

abbrev pub with_mark : Bool → Cell → Cell
with_mark m c = record { car = c.car; cdr = c.cdr; mark = m }

-- The word that a change brings into the cell; nil where it brings none.
abbrev pub word_in : Change → Word
word_in (Change.Car w) = w
word_in (Change.Cdr w) = w
word_in (Change.Mark m) = Word.Nil

-- A cell with a change made.
abbrev pub with_change : Change → Cell → Cell
with_change (Change.Car w) c = with_car w c
with_change (Change.Cdr w) c = with_cdr w c
with_change (Change.Mark m) c = with_mark m c
