-- A pair of numbers that makes no zone.
use Rattle.std.proofs.Common.{◌≡◌, ℕ, List, [], ◌∷◌, None, Ok, Err, Result, sym, ap, ◌∙◌, subst}
use Rattle.atoms.specs.declared.fault.ZoneFault.{ZoneFault}
use Rattle.atoms.specs.Refusals.{told}
use Rattle.atoms.specs.Zones.{zone_at}
use Rattle.zonesheet.specs.declared.answers.Fault.{Fault}
use Rattle.zonesheet.specs.declared.answers.Fault.TheVariants.{Refused}
use Rattle.zonesheet.specs.declared.listing.Listing.{Listing}
use Rattle.zonesheet.specs.Answers.{Answers}
use Rattle.zonesheet.specs.Lines.{ReadsPair}

-- What a line with such a pair is answered with: the refusal of that pair.
pub answers_refused : (line : List ℕ) (o l : ℕ) (f : ZoneFault) (e : Fault) (r : Result Listing Fault)
    → ReadsPair line (Ok (o, l)) → None ≡ zone_at o l → told f ≡ (4, o ∷ l ∷ []) → e ≡ Refused f → r ≡ Err e → Answers line r
answers_refused line o l f e r reads none says is err = subst (Answers line) (sym (err ∙ ap Err is)) ((o, l), reads, sym none, says)
