-- Each effort is the effort of its numbers.
use Rattle.std.proofs.Common.{◌≡◌, Some, ap}
use Rattle.std.proofs.Props.{props}
use Rattle.pacing.specs.Shares.{IsEffort}
use Rattle.pacing.specs.Efforts.{dec_both, dec_share, effort_if, effort_at}
use Rattle.pacing.specs.declared.effort.Effort.{Effort}

pub effort_at-parts : (e : Effort) → Some e ≡ effort_at e.k1 e.k2
effort_at-parts e = effort_if-parts e (dec_both (dec_share e.k1) (dec_share e.k2))
  where
    effort_if-parts : (e : Effort) (d : Dec (IsEffort e.k1 e.k2)) → Some e ≡ effort_if e.k1 e.k2 d
    effort_if-parts e (yes h) =
        let one : IsProp (IsEffort e.k1 e.k2) = hlevel props in
        ap (λ k. Some (record { k1 = e.k1; k2 = e.k2; fits = k })) (one e.fits h)
    effort_if-parts e (no f) = absurd (f e.fits)
