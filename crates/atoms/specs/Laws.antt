-- The laws of the two kinds. They stand among the definitions since the kinds cite them as ghost members.
use Rattle.std.specs.Prelude.{◌≡◌, ℕ, ◌+◌, ◌*◌, ◌%◌, ◌^◌, ◌<◌, Some, Option, refl}
use Rattle.std.specs.Coded.{le_prop}
use Rattle.std.proofs.Common.{sym, ap, ◌∙◌, lit<, arith}
use Rattle.std.proofs.Props.{props}
use Rattle.std.proofs.lemmas.Bool.Decides.{nat_tests}
use Rattle.std.proofs.lemmas.Nat.{div-mul-add, mod-mul-add, mod_below}
use mathlib.Core.HLevel.{is_prop→PathP}
use Rattle.atoms.specs.Aspects.{aspect_code, aspect_of, low_byte}
use Rattle.atoms.specs.Bounds.{IsZone}
use Rattle.atoms.specs.Kinds.{LawfulKind}
use Rattle.atoms.specs.Zones.{dec_zone, zone_if, zone_at, zone_code, zone_of}
use Rattle.atoms.specs.declared.aspect.Aspect.{Aspect}
use Rattle.atoms.specs.declared.aspect.Aspect.TheVariants.{Clear, Hold, Occupied}
use Rattle.atoms.specs.declared.byte.Byte.{Byte}
use Rattle.atoms.specs.declared.zone.Zone.{Zone}

-- each zone is the zone of its offset and length
pub zone_at-parts : (z : Zone) → Some z ≡ zone_at z.offset z.length
zone_at-parts z = zone_if-parts z (dec_zone z.offset z.length)
  where
    zone_if-parts : (z : Zone) (d : Dec (IsZone z.offset z.length)) → Some z ≡ zone_if z.offset z.length d
    zone_if-parts z (yes h) =
        let one : IsProp (IsZone z.offset z.length) = hlevel props in
        ap (λ k. Some (record { offset = z.offset; length = z.length; fits = k })) (one z.fits h)
    zone_if-parts z (no f) = absurd (f z.fits)

-- a code that a value has is read as that value
pub has_value : {V : Type 0} {coded : V → ℕ} {valued : ℕ → Option V} → LawfulKind coded valued → (v : V) (c : ℕ) → c ≡ coded v → Some v ≡ valued c
has_value {valued = valued} law v c e = sym (ap valued e ∙ law.reads v)

pub zones-law : LawfulKind zone_code zone_of
zones-law = record {
  reads = λ z.
      let small : z.length < 65536 = omega arith in
      rw (div-mul-add z.offset 65536 z.length small, mod-mul-add z.offset 65536 z.length small) (sym (zone_at-parts z));
  only = λ c z e. grind arith;
  range = λ z. omega arith;
}

-- the low byte of b's place in a block is b
low_byte-at : {Of : Type 0} (k : ℕ) (b : Byte Of) → low_byte (256 * k + b.n) ≡ b
low_byte-at k b =
    let e : (256 * k + b.n) % 256 ≡ b.n = omega arith in
    λ i. record { n = e i; of = record {}; small = is_prop→PathP (λ j. e j < 256) (λ j. le_prop) (mod_below (256 * k + b.n) 256 (lit< tt)) b.small i }

reads-aspect : (v : Aspect) → aspect_of (aspect_code v) ≡ Some v
reads-aspect Clear = refl
reads-aspect (Hold s) = grind (arith, nat_tests, low_byte-at 1 s)
reads-aspect (Occupied t) = grind (arith, nat_tests, low_byte-at 2 t)

only-aspect : (c : ℕ) (v : Aspect) → aspect_of c ≡ Some v → c ≡ aspect_code v
only-aspect c v e = grind (arith, nat_tests)

range-aspect : (v : Aspect) → aspect_code v < 2 ^ 32
range-aspect v = grind arith

pub aspects-law : LawfulKind aspect_code aspect_of
aspects-law = record {
  reads = reads-aspect;
  only = only-aspect;
  range = range-aspect;
}
