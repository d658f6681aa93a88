-- A call's name with the numbers that it takes.
use Rattle.std.specs.Prelude.{ℕ, Bool, List, [], ◌∷◌, ◌++◌, length}
use Rattle.plan.specs.declared.line.Line.{Line}
use Rattle.plan.specs.declared.verb.Verb.{Verb}
use Rattle.plan.specs.Lines.{said, name, numbers}

-- the call of a line
abbrev pub verb_of : Line → Verb
verb_of (Line.Store cells k1 k2 floor) = Verb.Store
verb_of (Line.Load register offset length) = Verb.Load
verb_of (Line.Clear i) = Verb.Clear
verb_of (Line.Copy i a) = Verb.Copy
verb_of (Line.Cons i a b) = Verb.Cons
verb_of (Line.Car i a) = Verb.Car
verb_of (Line.Cdr i a) = Verb.Cdr
verb_of (Line.Rplaca a b) = Verb.Rplaca
verb_of (Line.Rplacd a b) = Verb.Rplacd
verb_of (Line.Look i) = Verb.Look
verb_of (Line.Same i j) = Verb.Same

-- the line of a call with the first of these numbers
abbrev pub line_of : Verb → ℕ → ℕ → ℕ → ℕ → Line
line_of Verb.Store a b c d = Line.Store a b c d
line_of Verb.Load a b c d = Line.Load a b c
line_of Verb.Clear a b c d = Line.Clear a
line_of Verb.Copy a b c d = Line.Copy a b
line_of Verb.Cons a b c d = Line.Cons a b c
line_of Verb.Car a b c d = Line.Car a b
line_of Verb.Cdr a b c d = Line.Cdr a b
line_of Verb.Rplaca a b c d = Line.Rplaca a b
line_of Verb.Rplacd a b c d = Line.Rplacd a b
line_of Verb.Look a b c d = Line.Look a
line_of Verb.Same a b c d = Line.Same a b

-- its line with nothing but zeros
abbrev pub plain : Verb → Line
plain v = line_of v 0 0 0 0

-- whether a plan's first line is of this call
abbrev pub opens : Verb → Bool
opens v = (said (plain v)).0

-- the name and the space after it
abbrev pub word : Verb → List ℕ
word v = name (plain v) ++ (32 ∷ [])

-- how many numbers it takes
abbrev pub arity : Verb → ℕ
arity v = length (numbers (plain v))
