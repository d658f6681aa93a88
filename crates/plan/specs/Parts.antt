-- What the reader's parts find at the front of a text, and what they leave of it.
use Rattle.std.specs.Prelude.{◌≡◌, ℕ, zero, suc, ◌≤◌, Bool, List, [], ◌∷◌, ◌++◌, length, decimal, Result, MatchResult}
use Rattle.plan.specs.declared.line.Line.{Line}
use Rattle.plan.specs.declared.verb.Verb.{Verb}
use Rattle.plan.specs.declared.scanner.Scanner.{Scanner}
use Rattle.plan.specs.declared.scanner.Mismatch.{Mismatch}
use Rattle.plan.specs.Lines.{line_text, numbers, numbers_text, Small, Stands}
use Rattle.plan.specs.Verbs.{word, opens, verb_of}
use Rattle.plan.specs.Readings.{Stuck}

-- what a scanner reads of these texts: a value, by what was left before it and after it; or where they go wrong
abbrev pub Scans : {A : Type 0} → (List ℕ → Type 0) → (List ℕ → A → List ℕ → Type 0) → Scanner → Scanner → Result A Mismatch → Type 0
Scans L P old new r = MatchResult r (λ x. P old.rest.now x new.rest.now) (λ _. Stuck L old.rest.now new.rest.now)

-- numbers up to the line's end, the space before the first of them already read
abbrev pub after : List ℕ → List ℕ
after [] = []
after (n ∷ ns) = decimal n ++ numbers_text ns

-- the texts of this many numbers up to the line's end
abbrev pub Numbers : ℕ → List ℕ → Type 0
Numbers count t = (ns : List ℕ) × (length ns ≡ count) × Small ns × (t ≡ after ns)

-- the byte after a number, by how many are still to come
abbrev pub mark : ℕ → ℕ
mark zero = 10
mark (suc n) = 32

abbrev pub Digit : ℕ → Type 0
Digit b = (48 ≤ b) × (b ≤ 57)

abbrev pub NoDigit : List ℕ → Type 0
NoDigit [] = Unit {0}
NoDigit (b ∷ t) = Digit b → ⊥

-- a number and the byte that ends it
pub record NumberAt (left : ℕ) (text : List ℕ) (n : ℕ) (rest : List ℕ) : Type 0 where
  pub small : n ≤ 99999
  pub cut : text ≡ decimal n ++ (mark left ∷ rest)

-- this many numbers up to the line's end
pub record NumbersAt (count : ℕ) (text ns rest : List ℕ) : Type 0 where
  pub counted : length ns ≡ count
  pub small : Small ns
  pub cut : text ≡ after ns ++ rest

-- a name that may stand there, and its space
pub record NameAt (first : Bool) (text : List ℕ) (v : Verb) (rest : List ℕ) : Type 0 where
  pub place : opens v ≡ first
  pub cut : text ≡ word v ++ rest

-- the numbers of a call's line
pub record CallAt (v : Verb) (text : List ℕ) (l : Line) (rest : List ℕ) : Type 0 where
  pub call : verb_of l ≡ v
  pub small : Small (numbers l)
  pub cut : text ≡ after (numbers l) ++ rest

-- a line that may stand there
pub record LineAt (first : Bool) (text : List ℕ) (l : Line) (rest : List ℕ) : Type 0 where
  pub stands : Stands first l
  pub cut : text ≡ line_text l ++ rest
