-- Bit fields of any width, and that a packed cell reads back.
use Rattle.std.proofs.Common.{◌≡◌, ℕ, ◌+◌, ◌-◌, ◌*◌, ◌/◌, ◌%◌, ◌^◌, ◌<◌, Bool, true, eqb, sym, ap, ◌∙◌, mod-eq_of_lt, arith}
use Rattle.std.proofs.lemmas.Grind.{common_steps}
use lib.Bits.{bit_and, bit_or}
use Rattle.std.proofs.lemmas.Nat.{pow_pos, and_mask, or_shifted, one_shl, shr-shr, shr_high, mod_below}
use Rattle.bank.specs.declared.word.Word.{Word}
use Rattle.bank.specs.declared.word.Cell.{Cell}
use Rattle.bank.specs.declared.word.Change.{Change}
use Rattle.bank.specs.Words.{word_in, with_change, with_car, with_cdr, with_mark}
use Rattle.bank.specs.Banks.{fits}
use Rattle.memory.specs.Packing.{above, field_of, mark_bit, word_bits, word_of_bits, packed, unpacked, Narrow, IsPacked, packed_top}

-- The lowest field, and the fields above it.
pub field-here : (high wide low : ℕ) → low < 2 ^ wide → field_of (above high wide low) 0 wide ≡ low
field-here high wide low h = grind (arith, common_steps)

pub field-up : (high k low at wide : ℕ) → low < 2 ^ k → field_of (above high k low) (k + at) wide ≡ field_of high at wide
field-up high k low at wide h = ap (λ n. n % 2 ^ wide) (sym (shr-shr (above high k low) k at) ∙ ap (λ n. n / 2 ^ at) (shr_high high k low h))

pub field-whole : (n wide : ℕ) → n < 2 ^ wide → field_of n 0 wide ≡ n
field-whole n wide h = grind (arith, common_steps)

-- What shifts and masks make.
pub above-made : (high wide low : ℕ) → low < 2 ^ wide → above high wide low < 2 ^ 64 → bit_or (high * 2 ^ wide % 2 ^ 64) low ≡ above high wide low
above-made high wide low narrow fits =
    let kept : high * 2 ^ wide % 2 ^ 64 ≡ high * 2 ^ wide = mod-eq_of_lt (omega arith) in
    ap (λ n. bit_or n low) kept ∙ or_shifted high wide low narrow

pub field-made : (bits at wide : ℕ) → wide < 64 → bit_and (bits / 2 ^ at) (1 * 2 ^ wide % 2 ^ 64 - 1) ≡ field_of bits at wide
field-made bits at wide h = ap (λ n. bit_and (bits / 2 ^ at) (n - 1)) (one_shl wide 64 h) ∙ and_mask (bits / 2 ^ at) wide

pub field-small : (bits at wide : ℕ) → field_of bits at wide < 2 ^ wide
field-small bits at wide = mod_below (bits / 2 ^ at) (2 ^ wide) (pow_pos wide)

-- A word, and then a cell, reads back.
pub word_small : (w : Word) → fits packed_top w ≡ true → word_bits w < 2 ^ 30
word_small w h = grind (arith, common_steps)

word_back : (w : Word) → fits packed_top w ≡ true → word_of_bits (word_bits w) ≡ w
word_back w h = grind (arith, common_steps)

mark-back : (m : Bool) → eqb (mark_bit m) 1 ≡ m
mark-back m = grind (arith, common_steps)

mark-small : (m : Bool) → mark_bit m < 2 ^ 1
mark-small m = grind (arith, common_steps)

pub reads-back : (c : Cell) → Narrow c → unpacked (packed c) ≡ c
reads-back c h =
    let low : word_bits c.car < 2 ^ 30 = word_small c.car h.car in
    let mid : word_bits c.cdr < 2 ^ 30 = word_small c.cdr h.cdr in
    let high = above (mark_bit c.mark) 30 (word_bits c.cdr) in
    let car : field_of (packed c) 0 30 ≡ word_bits c.car = field-here high 30 (word_bits c.car) low in
    let cdr : field_of (packed c) 30 30 ≡ word_bits c.cdr = field-up high 30 (word_bits c.car) 0 30 low ∙ field-here (mark_bit c.mark) 30 (word_bits c.cdr) mid in
    let mark : field_of (packed c) 60 1 ≡ mark_bit c.mark = field-up high 30 (word_bits c.car) 30 1 low ∙ field-up (mark_bit c.mark) 30 (word_bits c.cdr) 0 1 mid ∙ field-whole (mark_bit c.mark) 1 (mark-small c.mark) in
    let first = ap word_of_bits car ∙ word_back c.car h.car in
    let second = ap word_of_bits cdr ∙ word_back c.cdr h.cdr in
    let third = ap (λ n. eqb n 1) mark ∙ mark-back c.mark in
    λ i. record { car = first i; cdr = second i; mark = third i }

pub packs-apart : (c d : Cell) → Narrow c → Narrow d → packed c ≡ packed d → c ≡ d
packs-apart c d h k e = sym (reads-back c h) ∙ ap unpacked e ∙ reads-back d k

-- What is read is narrow, so it packs again.
pub read-narrow : (bits : ℕ) → Narrow (unpacked bits)
read-narrow bits = grind (arith, common_steps)

-- A narrow cell stays narrow under a change whose word fits.
pub narrow_with : (c : Cell) (d : Change) → Narrow c → fits packed_top (word_in d) ≡ true → Narrow (with_change d c)
narrow_with c d is h = grind (arith, common_steps)

-- What packing uses.
pub ruleset of_packing = (above-made, field-made, field-small, reads-back, narrow_with, read-narrow)

-- The parts of a packed cell, where they lie.
module _ (c : Cell) (h : Narrow c) where
  low : word_bits c.car < 2 ^ 30
  low = word_small c.car h.car

  mid : word_bits c.cdr < 2 ^ 30
  mid = word_small c.cdr h.cdr

  top : above (mark_bit c.mark) 30 (word_bits c.cdr) < 2 ^ 31
  top = let m = mark-small c.mark in let d = mid in omega arith

  upper : field_of (packed c) 30 31 ≡ above (mark_bit c.mark) 30 (word_bits c.cdr)
  upper =
      let high = above (mark_bit c.mark) 30 (word_bits c.cdr) in
      field-up high 30 (word_bits c.car) 0 31 low ∙ field-whole high 31 top

  lower : field_of (packed c) 0 30 ≡ word_bits c.car
  lower = field-here (above (mark_bit c.mark) 30 (word_bits c.cdr)) 30 (word_bits c.car) low

  last : field_of (packed c) 60 1 ≡ mark_bit c.mark
  last =
      field-up (above (mark_bit c.mark) 30 (word_bits c.cdr)) 30 (word_bits c.car) 30 1 low
      ∙ field-up (mark_bit c.mark) 30 (word_bits c.cdr) 0 1 mid
      ∙ field-whole (mark_bit c.mark) 1 (mark-small c.mark)

  both : above (word_bits c.cdr) 30 (word_bits c.car) < 2 ^ 60
  both = let l = low in let d = mid in omega arith

  parted : packed c ≡ above (mark_bit c.mark) 60 (above (word_bits c.cdr) 30 (word_bits c.car))
  parted = omega arith

  words : field_of (packed c) 0 60 ≡ above (word_bits c.cdr) 30 (word_bits c.car)
  words = ap (λ n. field_of n 0 60) parted ∙ field-here (mark_bit c.mark) 60 (above (word_bits c.cdr) 30 (word_bits c.car)) both

together : (m : Bool) (c : Cell) → above (mark_bit m) 60 (above (word_bits c.cdr) 30 (word_bits c.car)) ≡ packed (with_mark m c)
together m c = omega arith

-- A part of a packed cell put anew.
pub put_car : (bits : ℕ) (w : Word) → IsPacked bits → above (field_of bits 30 31) 30 (word_bits w) ≡ packed (with_car w (unpacked bits))
put_car bits w kept =
    ap (λ n. above (field_of n 30 31) 30 (word_bits w)) (sym kept)
    ∙ ap (λ n. above n 30 (word_bits w)) (upper (unpacked bits) (read-narrow bits))

pub put_cdr : (bits : ℕ) (w : Word) → IsPacked bits → above (above (field_of bits 60 1) 30 (word_bits w)) 30 (field_of bits 0 30) ≡ packed (with_cdr w (unpacked bits))
put_cdr bits w kept =
    ap (λ n. above (above (field_of n 60 1) 30 (word_bits w)) 30 (field_of n 0 30)) (sym kept)
    ∙ ap (λ n. above (above n 30 (word_bits w)) 30 (field_of (packed (unpacked bits)) 0 30)) (last (unpacked bits) (read-narrow bits))
    ∙ ap (λ n. above (above (mark_bit (unpacked bits).mark) 30 (word_bits w)) 30 n) (lower (unpacked bits) (read-narrow bits))

pub put_mark : (bits : ℕ) (m : Bool) → IsPacked bits → above (mark_bit m) 60 (field_of bits 0 60) ≡ packed (with_mark m (unpacked bits))
put_mark bits m kept =
    ap (λ n. above (mark_bit m) 60 (field_of n 0 60)) (sym kept)
    ∙ ap (above (mark_bit m) 60) (words (unpacked bits) (read-narrow bits))
    ∙ together m (unpacked bits)

-- What putting a part anew uses.
pub ruleset of_changing = (above-made, field-made, field-small, put_car, put_cdr, put_mark)
