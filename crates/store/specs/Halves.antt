-- The two words of a cell.
use Rattle.bank.specs.declared.word.Word.{Word}
use Rattle.bank.specs.declared.word.Cell.{Cell}
use Rattle.bank.specs.Words.{with_car, with_cdr}
use Rattle.store.specs.declared.half.Half.{Half}

abbrev pub word_of : Half → Cell → Word
word_of Half.Car c = c.car
word_of Half.Cdr c = c.cdr

abbrev pub with_word : Half → Word → Cell → Cell
with_word Half.Car = with_car
with_word Half.Cdr = with_cdr
