-- Zones: which pairs are one, what they cover, and their codes.
use Rattle.std.specs.Prelude.{ℕ, ◌+◌, ◌*◌, ◌/◌, ◌%◌, Bool, ◌&&◌, List, ◌++◌, Some, None, codes, decimal, Option, nat_le, nat_lt}
use Rattle.std.proofs.Math.Decide.{dec_le}
use Rattle.atoms.specs.Bounds.{IsZone}
use Rattle.atoms.specs.declared.zone.Zone.{Zone}

abbrev pub dec_three : {P Q R : Type 0} → Dec P → Dec Q → Dec R → Dec (P × Q × R)
dec_three (yes p) (yes q) (yes r) = yes (p, q, r)
dec_three (yes p) (yes q) (no f) = no (λ h. f h.2)
dec_three (yes p) (no f) r = no (λ h. f h.1)
dec_three (no f) q r = no (λ h. f h.0)

abbrev pub dec_zone : (offset length : ℕ) → Dec (IsZone offset length)
dec_zone offset length = dec_three (dec_le 1 length) (dec_le length 65535) (dec_le (offset + length) 65536)

abbrev pub zone_if : (offset length : ℕ) → Dec (IsZone offset length) → Option Zone
zone_if offset length (yes h) = Some (record { offset = offset; length = length; fits = h })
zone_if offset length (no f) = None

-- the zone of an offset and a length, where they make one
abbrev pub zone_at : ℕ → ℕ → Option Zone
zone_at offset length = zone_if offset length (dec_zone offset length)

-- whether a zone covers a position: offset ≤ p < offset + length
abbrev pub covered : Zone → ℕ → Bool
covered z p = nat_le z.offset p && nat_lt p (z.offset + z.length)

abbrev pub zone_code : Zone → ℕ
zone_code z = z.offset * 65536 + z.length

abbrev pub zone_of : ℕ → Option Zone
zone_of code = zone_at (code / 65536) (code % 65536)

-- a zone as it is written: its offset, a space, its length
abbrev pub pair_text : Zone → List ℕ
pair_text z = decimal z.offset ++ (codes " " ++ decimal z.length)
