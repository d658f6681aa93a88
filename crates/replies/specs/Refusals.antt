-- A line's refusal, by its number and the values that it returns.
use Rattle.std.specs.Prelude.{ℕ, List}
use Rattle.atoms.specs.Refusals.{told as zone_told}
use Rattle.listcalls.specs.Faults.{told as store_told}
use Rattle.pacing.specs.Refusals.{told as effort_told}
use Rattle.replies.specs.declared.fault.LineFault.{LineFault}

abbrev pub told : LineFault → ℕ × List ℕ
told (LineFault.Effort fault) = effort_told fault
told (LineFault.Zone fault) = zone_told fault
told (LineFault.Store fault) = store_told fault
