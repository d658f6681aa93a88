-- Which of several names stands at the front of a text.
use Rattle.std.specs.Prelude.{ℕ, max, Bool, true, false, List, [], ◌∷◌, length, ◌==◌, Option, fold}
use Rattle.std.specs.List.{find, starts_with, take_while, zip}
use Rattle.plan.specs.declared.verb.Verb.{Verb}
use Rattle.plan.specs.Verbs.{word}

-- the calls that a plan's first line may have, and those that the others may have
abbrev pub table : Bool → List Verb
table true = Verb.Store ∷ []
table false = Verb.Load ∷ Verb.Clear ∷ Verb.Copy ∷ Verb.Cons ∷ Verb.Car ∷ Verb.Cdr ∷ Verb.Rplaca ∷ Verb.Rplacd ∷ Verb.Look ∷ Verb.Same ∷ []

-- how many bytes two texts have in common from their start on
abbrev pub agree : List ℕ → List ℕ → ℕ
agree w t = length (take_while (λ p. p.0 == p.1) (zip w t))

-- the first of these calls with whose word the text begins
abbrev pub found : List Verb → List ℕ → Option Verb
found verbs text = find (λ v. starts_with ◌==◌ text (word v)) verbs

-- the most bytes that the text has in common with the word of one of these
abbrev pub closest : List Verb → List ℕ → ℕ
closest verbs text = fold (λ n v. max n (agree (word v) text)) 0 verbs
