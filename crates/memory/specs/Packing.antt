-- A cell as one number: the car in bits 0 to 29, the cdr in bits 30 to 59, the mark in bit 60, zeros above.
-- Of a word the number lies in bits 0 to 27, and its kind above them.
use Rattle.std.specs.Prelude.{◌≡◌, ℕ, zero, suc, ◌+◌, ◌*◌, ◌/◌, ◌%◌, ◌^◌, Bool, true, if◌then◌else◌, Ok, Result, ◌==◌}
use Rattle.bank.specs.declared.word.Word.{Word}
use Rattle.bank.specs.declared.word.Cell.{Cell}
use Rattle.bank.specs.declared.fault.BankFault.{BankFault}
use Rattle.bank.specs.Words.{number_of}
use Rattle.bank.specs.Banks.{fits, taken}

-- The largest number of 28 bits.
abbrev pub packed_top : ℕ
packed_top = 268435455

-- A field of `wide` bits with `low` in it, and `high` above it.
abbrev pub above : ℕ → ℕ → ℕ → ℕ
above high wide low = high * 2 ^ wide + low

-- The field of `wide` bits that begins at bit `at`.
abbrev pub field_of : ℕ → ℕ → ℕ → ℕ
field_of bits at wide = bits / 2 ^ at % 2 ^ wide

abbrev pub kind_of : Word → ℕ
kind_of Word.Nil = 0
kind_of (Word.Cell n) = 1
kind_of (Word.Atom c) = 2
kind_of Word.Reserved = 3

abbrev pub word_of : ℕ → ℕ → Word
word_of zero n = Word.Nil
word_of (suc zero) n = Word.Cell n
word_of (suc (suc zero)) n = Word.Atom n
word_of (suc (suc (suc k))) n = Word.Reserved

abbrev pub mark_bit : Bool → ℕ
mark_bit m = if m then 1 else 0

abbrev pub word_bits : Word → ℕ
word_bits w = above (kind_of w) 28 (number_of w)

abbrev pub word_of_bits : ℕ → Word
word_of_bits bits = word_of (field_of bits 28 2) (field_of bits 0 28)

abbrev pub packed : Cell → ℕ
packed c = above (above (mark_bit c.mark) 30 (word_bits c.cdr)) 30 (word_bits c.car)

abbrev pub unpacked : ℕ → Cell
unpacked bits = record {
  car = word_of_bits (field_of bits 0 30);
  cdr = word_of_bits (field_of bits 30 30);
  mark = (field_of bits 60 1 == 1);
}

-- Both words have numbers of 28 bits.
pub record Narrow (c : Cell) : Type 0 where
  pub car : fits packed_top c.car ≡ true
  pub cdr : fits packed_top c.cdr ≡ true

-- The packing of the cell that it shows: every memory of a bank is made of such.
abbrev pub IsPacked : ℕ → Type 0
IsPacked bits = packed (unpacked bits) ≡ bits

-- What packing answers: a word that is too wide is refused, the car first.
abbrev pub packing : Cell → Result ℕ BankFault
packing c = taken packed_top c.car (taken packed_top c.cdr (Ok (packed c)))

-- Each cell reads back.
abbrev pub ReadsBack : Type 0
ReadsBack = (c : Cell) → Narrow c → unpacked (packed c) ≡ c

-- No two cells pack alike.
abbrev pub PacksApart : Type 0
PacksApart = (c d : Cell) → Narrow c → Narrow d → packed c ≡ packed d → c ≡ d
