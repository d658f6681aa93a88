-- What a line is answered with.
use Rattle.std.specs.Prelude.{◌≡◌, ℕ, List, [], ◌∷◌, ◌++◌, Some, None, Ok, Err, codes, Result}
use Rattle.std.specs.Option.{option_map}
use Rattle.atoms.specs.Refusals.{told, spoken}
use Rattle.atoms.specs.Zones.{zone_at}
use Rattle.zonesheet.specs.declared.answers.Fault.{Fault}
use Rattle.zonesheet.specs.declared.answers.Fault.TheVariants.{Line, Refused}
use Rattle.zonesheet.specs.declared.listing.Listing.{Listing}
use Rattle.zonesheet.specs.Lines.{ReadsPair, why}
use Rattle.zonesheet.specs.Listings.{listed}

-- the listing of the zone that the line names; a refusal where its two numbers make no zone; else what the line lacks
abbrev pub Answers : List ℕ → Result Listing Fault → Type 0
Answers line (Ok l) = (p : ℕ × ℕ) × ReadsPair line (Ok p) × (option_map listed (zone_at p.0 p.1) ≡ Some l)
Answers line (Err (Refused f)) = (p : ℕ × ℕ) × ReadsPair line (Ok p) × (zone_at p.0 p.1 ≡ None) × (told f ≡ (4, p.0 ∷ p.1 ∷ []))
Answers line (Err (Line f)) = ReadsPair line (Err f)

abbrev pub faulted : Fault → List ℕ
faulted (Line f) = codes "bad line: " ++ why f
faulted (Refused f) = spoken (told f) ++ codes ": a zone is 1 to 65535 long and ends by 65536"
