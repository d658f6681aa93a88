-- Which pairs make an effort.
use Rattle.std.specs.Prelude.{ℕ, Some, None, Option}
use Rattle.std.proofs.Math.Decide.{dec_le}
use Rattle.pacing.specs.Shares.{IsShare, IsEffort}
use Rattle.pacing.specs.declared.effort.Effort.{Effort}

abbrev pub dec_both : {P Q : Type 0} → Dec P → Dec Q → Dec (P × Q)
dec_both (yes p) (yes q) = yes (p, q)
dec_both (yes p) (no f) = no (λ h. f h.1)
dec_both (no f) q = no (λ h. f h.0)

abbrev pub dec_share : (k : ℕ) → Dec (IsShare k)
dec_share k = dec_both (dec_le 1 k) (dec_le k 64)

abbrev pub effort_if : (k1 k2 : ℕ) → Dec (IsEffort k1 k2) → Option Effort
effort_if k1 k2 (yes h) = Some (record { k1 = k1; k2 = k2; fits = h })
effort_if k1 k2 (no f) = None

-- the effort of a pair, where the pair makes one
abbrev pub effort_at : ℕ → ℕ → Option Effort
effort_at k1 k2 = effort_if k1 k2 (dec_both (dec_share k1) (dec_share k2))
