-- How the lines of a plan are written.
use Rattle.std.specs.Prelude.{◌≡◌, ℕ, ◌≤◌, Bool, true, false, List, [], ◌∷◌, ◌++◌, codes, decimal}
use Rattle.plan.specs.declared.line.Line.{Line}

-- the table: whether a line is a plan's first, its call's name, and its numbers
abbrev pub said : Line → Bool × List ℕ × List ℕ
said (Line.Store cells k1 k2 floor) = (true, codes "store", cells ∷ k1 ∷ k2 ∷ floor ∷ [])
said (Line.Load register offset length) = (false, codes "load", register ∷ offset ∷ length ∷ [])
said (Line.Clear i) = (false, codes "clear", i ∷ [])
said (Line.Copy i a) = (false, codes "copy", i ∷ a ∷ [])
said (Line.Cons i a b) = (false, codes "cons", i ∷ a ∷ b ∷ [])
said (Line.Car i a) = (false, codes "car", i ∷ a ∷ [])
said (Line.Cdr i a) = (false, codes "cdr", i ∷ a ∷ [])
said (Line.Rplaca a b) = (false, codes "rplaca", a ∷ b ∷ [])
said (Line.Rplacd a b) = (false, codes "rplacd", a ∷ b ∷ [])
said (Line.Look i) = (false, codes "look", i ∷ [])
said (Line.Same i j) = (false, codes "same", i ∷ j ∷ [])

abbrev pub name : Line → List ℕ
name l = (said l).1

abbrev pub numbers : Line → List ℕ
numbers l = (said l).2

-- what follows the name: a space (32) and the decimal of each number, and byte 10 at the end
abbrev pub numbers_text : List ℕ → List ℕ
numbers_text [] = 10 ∷ []
numbers_text (n ∷ ns) = 32 ∷ (decimal n ++ numbers_text ns)

abbrev pub line_text : Line → List ℕ
line_text l = name l ++ numbers_text (numbers l)

-- every number has at most five digits
abbrev pub Small : List ℕ → Type 0
Small [] = Unit {0}
Small (n ∷ ns) = (n ≤ 99999) × Small ns

-- a line that may stand there: a store line opens a plan, and no other line does
pub record Stands (opening : Bool) (l : Line) : Type 0 where
  pub place : (said l).0 ≡ opening
  pub small : Small (numbers l)

-- the lines of a plan from a line on, which opens the plan or not
abbrev pub Ordered : Bool → List Line → Type 0
Ordered opening [] = Unit {0}
Ordered opening (l ∷ ls) = Stands opening l × Ordered false ls

-- the lines, written one after another
abbrev pub plan_text : List Line → List ℕ
plan_text [] = []
plan_text (l ∷ ls) = line_text l ++ plan_text ls

-- whether the line after these opens the plan
abbrev pub opening : List Line → Bool
opening [] = true
opening (l ∷ ls) = false
