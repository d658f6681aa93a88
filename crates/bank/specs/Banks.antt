-- What a bank of the given limit and cells answers, and its cells afterwards.
use Rattle.std.specs.Prelude.{ℕ, ◌≤◌, Bool, if◌then◌else◌, List, length, Ok, Err, Result, nat_le, nat_lt, slice_index_or, slice_set}
use Rattle.bank.specs.declared.word.Word.{Word}
use Rattle.bank.specs.declared.word.Cell.{Cell}
use Rattle.bank.specs.declared.word.Change.{Change}
use Rattle.bank.specs.declared.fault.BankFault.{BankFault}
use Rattle.bank.specs.Words.{number_of, word_in, blank, with_change}

-- The law of banks.
pub record Sound (limit : ℕ) (cells : List Cell) : Type 0 where
  pub few : length cells ≤ 4096
  pub wide : 4095 ≤ limit

abbrev pub fits : ℕ → Word → Bool
fits limit w = nat_le (number_of w) limit

-- A call on cell n: refused where there is none, and otherwise answered with r.
abbrev pub on_cell : {A : Type 0} → List Cell → ℕ → Result A BankFault → Result A BankFault
on_cell cells n r = if nat_lt n (length cells) then r else Err (BankFault.NoSuchCell n)

-- A call with a word: refused where its number lies above the limit, and otherwise answered with r.
abbrev pub taken : {A : Type 0} → ℕ → Word → Result A BankFault → Result A BankFault
taken limit w r = if fits limit w then r else Err (BankFault.WordTooWide (number_of w))

abbrev pub asked : List Cell → ℕ → Result Cell BankFault
asked cells n = on_cell cells n (Ok (slice_index_or cells n blank))

abbrev pub writable : ℕ → List Cell → ℕ → Word → Result Cell BankFault
writable limit cells n w = on_cell cells n (taken limit w (Ok (slice_index_or cells n blank)))

abbrev pub word_taken : ℕ → List Cell → ℕ → Word → Result (Unit {0}) BankFault
word_taken limit cells n w = on_cell cells n (taken limit w (Ok tt))

-- What a change of a mark is answered: a mark fits every limit.
abbrev pub mark_taken : List Cell → ℕ → Result (Unit {0}) BankFault
mark_taken cells n = on_cell cells n (Ok tt)

-- Cell n replaced by its image under f; the cells as they are where there is no cell n.
abbrev pub changed : (Cell → Cell) → List Cell → ℕ → List Cell
changed f cells n = slice_set cells n (f (slice_index_or cells n blank))

-- A word put into a field, or the cells as they are where it does not fit.
abbrev pub word_put : (Word → Cell → Cell) → ℕ → List Cell → ℕ → Word → List Cell
word_put put limit cells n w = if fits limit w then changed (put w) cells n else cells

-- A change of cell n: refused where there is no such cell or its word does not fit, and the cells then as they are.
abbrev pub change_taken : ℕ → List Cell → ℕ → Change → Result (Unit {0}) BankFault
change_taken limit cells n change = word_taken limit cells n (word_in change)

abbrev pub change_put : ℕ → List Cell → ℕ → Change → List Cell
change_put limit cells n change = word_put (λ _. with_change change) limit cells n (word_in change)

-- A word, or the one in its place where it does not fit.
abbrev pub fitted : ℕ → Word → Word → Word
fitted limit w below = if fits limit w then w else below

-- A cell laid over another, each word where it fits.
abbrev pub merged : ℕ → Cell → Cell → Cell
merged limit c below = record {
  car = fitted limit c.car below.car;
  cdr = fitted limit c.cdr below.cdr;
  mark = c.mark;
}

-- A whole cell put into cell n, each word where it fits.
abbrev pub cell_put : ℕ → List Cell → ℕ → Cell → List Cell
cell_put limit cells n c = changed (merged limit c) cells n
