-- What the reading of a text is.
use Rattle.std.specs.Prelude.{◌≡◌, ℕ, ◌+◌, ◌<◌, ◌≤◌, Bool, true, false, List, [], ◌∷◌, ◌++◌, length, Some, None, Option}
use Rattle.plan.specs.declared.line.Line.{Line}
use Rattle.plan.specs.declared.fault.PlanFault.{PlanFault}
use Rattle.plan.specs.declared.fault.PlanFault.TheVariants.{TooLong, Malformed}
use Rattle.plan.specs.Lines.{line_text, Stands, Ordered, plan_text, opening}

-- the texts of the lines that may stand there
abbrev pub Written : Bool → List ℕ → Type 0
Written first t = (l : Line) × Stands first l × (t ≡ line_text l)

-- bytes with which some of these texts begins, and more of it is to come
abbrev pub Begins : (List ℕ → Type 0) → List ℕ → Type 0
Begins L front = (more : List ℕ) × (0 < length more) × L (front ++ more)

-- none of these texts begins so and goes on with the byte that comes; nothing is said where the input ends
abbrev pub Halts : (List ℕ → Type 0) → List ℕ → List ℕ → Type 0
Halts L front [] = Unit {0}
Halts L front (b ∷ rest) = (more : List ℕ) → L (front ++ (b ∷ more)) → ⊥

-- some of these texts begins here, and none of them goes on with what is left
pub record Stuck (L : List ℕ → Type 0) (text left : List ℕ) : Type 0 where
  pub front : List ℕ
  pub cut : text ≡ front ++ left
  pub begins : Begins L front
  pub halts : Halts L front left

-- what is left holds no line from its start on, and this is the column of the first byte that is not as it must be.
-- Where the input ends at that column, something of a line was read, or nothing at all of the plan.
pub record Fails (first : Bool) (left : List ℕ) (column : ℕ) : Type 0 where
  pub rest : List ℕ
  pub stuck : Stuck (Written first) left rest
  pub place : column ≡ length stuck.front + 1
  pub inside : first ≡ false → 0 < length left

-- how a reading ends after these lines: at the end of the input, once there is a line, or at a fault
abbrev pub Ends : List Line → List ℕ → Option PlanFault → Type 0
Ends ls left None = (left ≡ []) × (opening ls ≡ false)
Ends ls left (Some TooLong) = ⊥
Ends ls left (Some (Malformed line column)) = (line ≡ length ls + 1) × Fails (opening ls) left column

-- the lines read, written again, are the text up to what is left
pub record Parses (text : List ℕ) (ls : List Line) (fault : Option PlanFault) : Type 0 where
  pub left : List ℕ
  pub ordered : Ordered true ls
  pub again : text ≡ plan_text ls ++ left
  pub ends : Ends ls left fault

-- the reading of a text: its lines, and perhaps the fault that ends it
pub record Reads (text : List ℕ) (ls : List Line) (fault : Option PlanFault) : Type 0 where
  pub short : length text ≤ 32768 → Parses text ls fault
  pub long : 32768 < length text → (ls ≡ []) × (fault ≡ Some TooLong)

-- a text has one reading
abbrev pub OneReading : Type 0
OneReading = (text : List ℕ) (ls ms : List Line) (f g : Option PlanFault) → Reads text ls f → Reads text ms g → (ls ≡ ms) × (f ≡ g)

-- a plan that is written as it must be, and has a line, is read whole
abbrev pub Whole : List ℕ → List Line → Option PlanFault → Type 0
Whole text ls fault = (ms : List Line) → Ordered true ms → opening ms ≡ false → text ≡ plan_text ms → length text ≤ 32768 → (ls ≡ ms) × (fault ≡ None)
