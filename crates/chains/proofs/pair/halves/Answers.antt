use Rattle.std.proofs.Common.{ℕ, List, Some, None, Option, lit<, Bor, MatchOption}
use Rattle.std.proofs.lemmas.Str.Pattern.{split_parts, IsSplitOnceResult}
use Rattle.chains.specs.Pairs.{NoPlus, Parted}
use Rattle.chains.proofs.pair.halves.Goals as goal

parted : (text : List ℕ) (r : Option (Bor (List ℕ) × Bor (List ℕ))) → IsSplitOnceResult 43 text r → MatchOption r (NoPlus text) (λ p. Parted text p.0.now p.1.now)
parted text None h = split_parts 43 text None h (lit< tt)
parted text (Some p) h = let parts = split_parts 43 text (Some p) h (lit< tt) in record { whole = parts.0; first = parts.1 }

pub returns : goal.returns
returns c = parted c.args.text.now c.split_once.result c.split_once.ensures.cases
