-- What the contracts of a bank say where the elements are the cells themselves: the front is the cells, also after a change.
use Rattle.std.proofs.Common.{◌≡◌, ℕ, is_ok, if◌then◌else◌, List, get_or, Result, subst, arith}
use Rattle.std.proofs.lemmas.Grind.{common_steps}
use Rattle.std.proofs.lemmas.List.{map-id}
use Rattle.bank.specs.declared.word.Cell.{Cell}
use Rattle.bank.specs.declared.word.Change.{Change}
use Rattle.bank.specs.declared.fault.BankFault.{BankFault}
use Rattle.bank.specs.Words.{blank, with_change}
use Rattle.bank.specs.Banks.{Sound, change_taken, change_put}
use Rattle.bank.proofs.Laws.{changed-past}
use Rattle.memory.specs.Memories.{front, over, shown, stored}
use Rattle.memory.specs.Elements.{top, sound-memory}
use Rattle.memory.specs.Packing.{packed_top, unpacked}
use Rattle.memory.proofs.Fronts.{over-front}

-- The cells that are shown are the elements.
pub shown-itself : (m : List Cell) → shown (λ c. c) m ≡ front m
unfolding shown
shown-itself m = map-id (front m)

-- What is stored, as the change of the elements.
pub record-put : (m after : List Cell) (n : ℕ) (d : Change) (r : Result (Unit {0}) BankFault) → r ≡ change_taken top (shown (λ c. c) m) n d → after ≡ (if is_ok r then stored (with_change d (get_or (shown (λ c. c) m) n blank)) m n else m) → after ≡ over (change_put top (front m) n d) m
record-put m after n d r told is = grind (arith, common_steps, shown-itself m, over-front m, changed-past)

-- The law of banks, of each of the two.
pub sound-packs : (memory : List ℕ) → Sound packed_top (shown unpacked memory)
sound-packs memory = sound-memory packed_top unpacked (omega arith) memory

pub sound-records : (memory : List Cell) → Sound top (front memory)
sound-records memory = subst (Sound top) (shown-itself memory) (sound-memory top (λ c. c) (omega arith) memory)
