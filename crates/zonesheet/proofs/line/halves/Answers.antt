use Rattle.std.proofs.Common.{ℕ, List, Some, None, Option, lit<, Bor, MatchOption}
use Rattle.std.proofs.lemmas.Str.Pattern.{split_parts, IsSplitOnceResult}
use Rattle.zonesheet.specs.Lines.{NoSpace, Parted}
use Rattle.zonesheet.proofs.line.halves.Goals as goal

parted : (line : List ℕ) (r : Option (Bor (List ℕ) × Bor (List ℕ))) → IsSplitOnceResult 32 line r → MatchOption r (NoSpace line) (λ p. Parted line p.0.now p.1.now)
parted line None h = split_parts 32 line None h (lit< tt)
parted line (Some p) h = let parts = split_parts 32 line (Some p) h (lit< tt) in record { whole = parts.0; first = parts.1 }

pub returns : goal.returns
returns c = parted c.args.line.now c.split_once.result c.split_once.ensures.cases
