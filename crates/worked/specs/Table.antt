-- A table of worked cases: in each row what the definitions give, and what it is, as numbers.
use Rattle.std.specs.Prelude.{◌≡◌, ℕ, Bool, true, false, if◌then◌else◌, List, [], ◌∷◌, map, length, replicate, Some, None, Ok, Err, Option}
use Rattle.atoms.specs.Aspects.{aspect_of}
use Rattle.atoms.specs.Refusals.{told as zone_told}
use Rattle.atoms.specs.Zones.{zone_at, zone_code, zone_of, covered}
use Rattle.atoms.specs.declared.aspect.Aspect.{Aspect}
use Rattle.atoms.specs.declared.fault.ZoneFault.{ZoneFault}
use Rattle.atoms.specs.declared.zone.Zone.{Zone}
use Rattle.bank.specs.Words.{blank, number_of}
use Rattle.bank.specs.declared.word.Word.{Word}
use Rattle.collector.specs.Calls.{call}
use Rattle.listcalls.specs.Faults.{told as store_told}
use Rattle.collector.specs.Outcomes.{Outcome, register}
use Rattle.collector.specs.States.{Fixed, new}
use Rattle.listcalls.specs.declared.call.Call.{Call}
use Rattle.layers.specs.Joins.{joined}
use Rattle.layers.specs.Windows.{windowed}
use Rattle.memory.specs.Packing.{packed, packed_top}
use Rattle.pacing.specs.Efforts.{effort_at}
use Rattle.pacing.specs.Refusals.{told as effort_told}
use Rattle.pacing.specs.declared.effort.Effort.{Effort}
use Rattle.pacing.specs.declared.fault.EffortFault.{EffortFault}
use Rattle.worked.specs.Bound.{is_enough}

-- A refusal: its number, and the values that it returns.
abbrev pub refusal : ℕ × List ℕ → List ℕ
refusal (number, values) = number ∷ values

abbrev pub bit : Bool → List ℕ
bit b = (if b then 1 else 0) ∷ []

-- The code of the zone of a pair, or the refusal.
abbrev pub code_or : ℕ → ℕ → Option Zone → List ℕ
code_or offset length (Some z) = zone_code z ∷ []
code_or offset length None = refusal (zone_told (ZoneFault.NotAZone offset length))

-- Whether it covers a position.
abbrev pub covered_by : ℕ → Option Zone → List ℕ
covered_by p (Some z) = bit (covered z p)
covered_by p None = []

-- What a new store over a packed bank of one cell holds in register 0 once a zone is loaded into it: the code, or the refusal.
abbrev pub packed_zones : Fixed Zone
packed_zones = record { atoms = record { limit = packed_top; coded = zone_code; valued = zone_of }; floor = 1; k1 = 1; k2 = 1 }

abbrev pub held_row : Outcome Zone → List Word → List ℕ
held_row (Ok a) registers = number_of (register registers 0) ∷ []
held_row (Err fault) registers = refusal (store_told fault)

abbrev pub loaded : Option Zone → List ℕ
loaded (Some z) = let after = call false (new packed_zones 1) (Call.Load 0 z) in held_row after.outcome after.state.registers
loaded None = []

-- An aspect by its kind, 0 to 2, and its seconds or its train; nothing where a code has none.
abbrev pub aspect_row : Option Aspect → List ℕ
aspect_row None = []
aspect_row (Some Aspect.Clear) = 0 ∷ []
aspect_row (Some (Aspect.Hold seconds)) = 1 ∷ seconds.n ∷ []
aspect_row (Some (Aspect.Occupied train)) = 2 ∷ train.n ∷ []

-- An effort, or the refusal.
abbrev pub effort_row : ℕ → ℕ → Option Effort → List ℕ
effort_row k1 k2 (Some e) = e.k1 ∷ e.k2 ∷ []
effort_row k1 k2 None = refusal (effort_told (EffortFault.OutOfRange k1 k2))

-- The rows.
abbrev pub table : List (List ℕ × List ℕ)
table =
    (code_or 65535 1 (zone_at 65535 1), 4294901761 ∷ [])
    ∷ (code_or 65535 2 (zone_at 65535 2), 4 ∷ 65535 ∷ 2 ∷ [])
    ∷ (code_or 0 0 (zone_at 0 0), 4 ∷ 0 ∷ 0 ∷ [])
    ∷ (covered_by 149 (zone_at 100 50), 1 ∷ [])
    ∷ (covered_by 150 (zone_at 100 50), 0 ∷ [])
    ∷ (loaded (zone_at 4095 1), 268369921 ∷ [])
    ∷ (loaded (zone_at 4096 1), 2 ∷ 268435457 ∷ [])
    ∷ (packed (record { car = Word.Cell 1; cdr = Word.Nil; mark = true }) ∷ [], 1152921504875282433 ∷ [])
    ∷ (aspect_row (aspect_of 511), 1 ∷ 255 ∷ [])
    ∷ (aspect_row (aspect_of 512), 2 ∷ 0 ∷ [])
    ∷ (aspect_row (aspect_of 1), [])
    ∷ (effort_row 64 64 (effort_at 64 64), 64 ∷ 64 ∷ [])
    ∷ (effort_row 65 1 (effort_at 65 1), 3 ∷ 65 ∷ 1 ∷ [])
    ∷ (length (windowed 2 3 (replicate 4 blank)) ∷ [], 2 ∷ [])
    ∷ (length (joined (replicate 4096 blank) (replicate 1 blank)) ∷ [], 4096 ∷ [])
    ∷ (bit (is_enough 1000 20 20 107 1219), 1 ∷ [])
    ∷ (bit (is_enough 1000 20 20 106 1219), 0 ∷ [])
    ∷ (bit (is_enough 1000 20 20 107 1218), 0 ∷ [])
    ∷ []

-- In every row the two are the same.
abbrev pub Worked : Type 0
Worked = map (λ row. row.0) table ≡ map (λ row. row.1) table
