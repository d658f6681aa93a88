-- What is printed of a zone.
use Rattle.std.specs.Prelude.{ℕ, ◌+◌, ◌-◌, List, ◌++◌, codes, decimal}
use Rattle.atoms.specs.Zones.{zone_code, pair_text}
use Rattle.atoms.specs.declared.zone.Zone.{Zone}
use Rattle.zonesheet.specs.declared.listing.Listing.{Listing}

-- a zone with its code and its last position, and the same zone read back from the code
abbrev pub listed : Zone → Listing
listed z = record { zone = z; code = zone_code z; last = z.offset + z.length - 1; back = z }

abbrev pub listing : Listing → List ℕ
listing l =
    codes "zone " ++ (pair_text l.zone
    ++ (codes ": code " ++ (decimal l.code
    ++ (codes ", covers " ++ (decimal l.zone.offset
    ++ (codes " to " ++ (decimal l.last
    ++ (codes ", reads back as " ++ pair_text l.back))))))))
