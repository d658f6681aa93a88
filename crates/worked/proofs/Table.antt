-- The table, computed, and the bound as a test.
use Rattle.std.proofs.Common.{refl}
use Rattle.std.proofs.lemmas.Bool.{and_parts, and_from, leb-true, le-leb}
use native.Mathlib.Decide.{dec_le}
use Rattle.layers.specs.Joins.{joined}
use Rattle.layers.specs.Windows.{windowed}
use Rattle.worked.specs.Bound.{BoundTested}
use Rattle.worked.specs.Table.{Worked}

pub worked : Worked
unfolding joined windowed dec_le
worked = refl

pub bound-tested : BoundTested
bound-tested A k1 k2 M N = (
  λ h. record { reserve = leb-true _ _ (and_parts _ _ h).0; room = leb-true _ _ (and_parts _ _ h).1 },
  λ e. and_from _ _ (le-leb _ _ e.reserve) (le-leb _ _ e.room),
)
