-- How many lines were answered in which way.
use Rattle.std.specs.Prelude.{ℕ, ◌+◌, ◌-◌, ◌^◌, min, List, ◌++◌, Ok, Err, codes, decimal, Result}
use Rattle.zonesheet.specs.declared.answers.Fault.{Fault}
use Rattle.zonesheet.specs.declared.answers.Fault.TheVariants.{Line, Refused}
use Rattle.zonesheet.specs.declared.listing.Listing.{Listing}
use Rattle.zonesheet.specs.declared.tally.Tally.{Tally}

abbrev pub none : Tally
none = record { zones = 0; refused = 0; bad = 0 }

-- one more, up to the largest 64-bit number
abbrev pub more : ℕ → ℕ
more n = min (n + 1) (2 ^ 64 - 1)

abbrev pub counted : Result Listing Fault → Tally → Tally
counted (Ok l) t = record t { zones = more t.zones }
counted (Err (Refused f)) t = record t { refused = more t.refused }
counted (Err (Line f)) t = record t { bad = more t.bad }

abbrev pub totals : Tally → List ℕ
totals t =
    codes "zones " ++ (decimal t.zones
    ++ (codes ", refused " ++ (decimal t.refused
    ++ (codes ", bad lines " ++ decimal t.bad))))
