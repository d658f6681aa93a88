use Rattle.std.proofs.Common.{◌≡◌, ℕ, ◌<◌, None, length, get_or}
use Rattle.layers.specs.Holds.{held}
use Rattle.layers.proofs.hold.Hold.settle.Given as goal

-- What is seen stays, and the places below i are empty.
abbrev pub invariant-loop-i : goal.invariant-loop-i
invariant-loop-i g l =
    let bank = g.B.Bank in
    let s = l.self in
    let t = l.initial.self in
    record {
      limit : bank.limit s.below ≡ bank.limit t.below;
      beside : bank.beside s.below ≡ bank.beside t.below;
      shown : held (bank.limit t.below) s.places.slots (bank.cells s.below) ≡ held (bank.limit t.below) t.places.slots (bank.cells t.below);
      full : length s.places.slots ≡ 16;
      empty : (k : ℕ) → k < l.i → get_or s.places.slots k None ≡ None;
    }
