-- Aspects and their codes.
use Rattle.std.specs.Prelude.{ℕ, ◌+◌, ◌/◌, ◌%◌, if◌then◌else◌, Some, None, Option, ◌==◌}
use Rattle.std.proofs.Common.{lit<}
use Rattle.std.proofs.lemmas.Nat.{mod_below}
use Rattle.atoms.specs.declared.aspect.Aspect.{Aspect}
use Rattle.atoms.specs.declared.aspect.Aspect.TheVariants.{Clear, Hold, Occupied}
use Rattle.atoms.specs.declared.byte.Byte.{Byte}

-- clear is 0, hold is 256 + seconds, occupied is 512 + train
abbrev pub aspect_code : Aspect → ℕ
aspect_code Clear = 0
aspect_code (Hold seconds) = 256 + seconds.n
aspect_code (Occupied train) = 512 + train.n

-- the lowest eight bits of a code
abbrev pub low_byte : {Of : Type 0} → ℕ → Byte Of
low_byte code = record { n = code % 256; of = record {}; small = mod_below code 256 (lit< tt) }

-- the aspect that a code of a block of 256 codes, numbered from 0, has
abbrev pub aspect_in : ℕ → ℕ → Option Aspect
aspect_in block code = if block == 1 then Some (Hold (low_byte code)) else (if block == 2 then Some (Occupied (low_byte code)) else None)

-- the aspect of a code; of block 0 only code 0 has one
abbrev pub aspect_of : ℕ → Option Aspect
aspect_of code = if code == 0 then Some Clear else aspect_in (code / 256) code
