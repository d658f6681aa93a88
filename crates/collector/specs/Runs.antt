-- Runs: lists of calls from a new store, with what the start rule said, and the collections of a run.
use Rattle.std.specs.Prelude.{◌≡◌, ℕ, ◌+◌, ◌≤◌, Bool, true, false, List, [], ◌∷◌, ◌++◌, map, Some, None, Option, ◌&&◌, nat_le}
use Rattle.listcalls.specs.declared.call.Call.{Call}
use Rattle.listcalls.specs.declared.phase.Phase.{Phase}
use Rattle.collector.specs.States.{State}
use Rattle.collector.specs.Turns.{scanned, freed, ground}
use Rattle.collector.specs.Outcomes.{Outcome, registers_of, absent}
use Rattle.collector.specs.Calls.{call as call_on}

-- A call, and the start rule's answer, which counts only where an idle turn asks for it.
pub record Event (V : Type 0) : Type 0 where
  pub call : Call V
  pub says : Bool

abbrev pub next : {V : Type 0} → State V → Event V → State V
next s e = (call_on e.says s e.call).state

abbrev pub outcome : {V : Type 0} → State V → Event V → Outcome V
outcome s e = (call_on e.says s e.call).outcome

abbrev pub final : {V : Type 0} → State V → List (Event V) → State V
final s [] = s
final s (e ∷ es) = final (next s e) es

abbrev pub outcomes : {V : Type 0} → State V → List (Event V) → List (Outcome V)
outcomes s [] = []
outcomes s (e ∷ es) = outcome s e ∷ outcomes (next s e) es

abbrev pub calls_of : {V : Type 0} → List (Event V) → List (Call V)
calls_of es = map (λ e. e.call) es

-- The law of start rules, along a run: a free count at or below the floor gets yes.
abbrev pub Keeps : {V : Type 0} → State V → Bool → Type 0
Keeps s says = s.phase ≡ Phase.Idle → s.pool.count ≤ s.fixed.floor → says ≡ true

abbrev pub Admissible : {V : Type 0} → State V → List (Event V) → Type 0
Admissible s [] = Unit {0}
Admissible s (e ∷ es) = Keeps s e.says × Admissible (next s e) es

abbrev pub is_idle : Phase → Bool
is_idle Phase.Idle = true
is_idle Phase.Mark = false
is_idle Phase.Sweep = false

-- Whether a call makes a turn: a cons whose registers are there does, and no other call.
abbrev pub makes_turn : {V : Type 0} → Option ℕ → Call V → Bool
makes_turn (Some r) c = false
makes_turn None (Call.Load i v) = false
makes_turn None (Call.Clear i) = false
makes_turn None (Call.Copy i a) = false
makes_turn None (Call.Cons i a b) = true
makes_turn None (Call.Car i a) = false
makes_turn None (Call.Cdr i a) = false
makes_turn None (Call.Rplaca a b) = false
makes_turn None (Call.Rplacd a b) = false
makes_turn None (Call.Look i) = false
makes_turn None (Call.Same i j) = false

-- Whether it asks the start rule: the turn of an idle store does.
abbrev pub asks : {V : Type 0} → State V → Call V → Bool
asks s c = makes_turn (absent (registers_of c)) c && is_idle s.phase

-- The start rule after a call: what it may become where it was asked with the count, and otherwise as it was.
abbrev pub RuleAfter : {R : Type 0} → (R → ℕ → R → Type 0) → Bool → R → ℕ → R → Type 0
RuleAfter becomes true r count then = becomes r count then
RuleAfter becomes false r count then = then ≡ r

-- The start rule along a run from s: at each call its answer is what it says of the free count, and only a question changes it.
abbrev pub Ruled : {V R : Type 0} → (R → ℕ → Bool) → (R → ℕ → R → Type 0) → State V → R → List (Event V) → R → Type 0
Ruled says becomes s r [] last = last ≡ r
Ruled {V} {R} says becomes s r (e ∷ es) last =
    (then : R) × (e.says ≡ says r s.pool.count) × RuleAfter becomes (asks s e.call) r s.pool.count then × Ruled says becomes (next s e) then es last

-- The events of some calls from s, where the rule says yes to the counts at or below this floor and to no other.
abbrev pub under_floor : {V : Type 0} → ℕ → State V → List (Call V) → List (Event V)
under_floor floor s [] = []
under_floor {V} floor s (c ∷ cs) =
    let e : Event V = record { call = c; says = nat_le s.pool.count floor } in e ∷ under_floor floor (next s e) cs

-- A collection: the state just before the call whose turn began it, its turns after that one, the cells popped and freed in them.
pub record Collection (V : Type 0) : Type 0 where
  pub began : State V
  pub mark_turns : ℕ
  pub sweep_turns : ℕ
  pub scanned_cells : List ℕ
  pub freed_cells : List ℕ

abbrev pub beginning : {V : Type 0} → State V → Collection V
beginning s = record { began = s; mark_turns = 0; sweep_turns = 0; scanned_cells = []; freed_cells = [] }

-- How a turn takes it on: a new collection where one begins.
abbrev pub onward_in : {V : Type 0} → Phase → Bool → State V → Collection V → Collection V
onward_in Phase.Idle true s c = beginning s
onward_in Phase.Idle false s c = c
onward_in Phase.Mark says s c = record {
  began = c.began;
  mark_turns = c.mark_turns + 1;
  sweep_turns = c.sweep_turns;
  scanned_cells = c.scanned_cells ++ scanned s.fixed.k1 s.heap;
  freed_cells = c.freed_cells;
}
onward_in Phase.Sweep says s c = record {
  began = c.began;
  mark_turns = c.mark_turns;
  sweep_turns = c.sweep_turns + 1;
  scanned_cells = c.scanned_cells;
  freed_cells = c.freed_cells ++ freed s.fixed.atoms.limit s.fixed.k2 (ground s);
}

-- A call without a turn leaves it as it is.
abbrev pub onward_if : {V : Type 0} → Bool → Bool → State V → Collection V → Collection V
onward_if true says s c = onward_in s.phase says s c
onward_if false says s c = c

abbrev pub onward : {V : Type 0} → State V → Event V → Collection V → Collection V
onward s e c = onward_if (makes_turn (absent (registers_of e.call)) e.call) e.says s c

-- The collections of a run, with whether each finished: one is finished once a turn sets the phase to idle, and the last may be left unfinished.
abbrev pub ended : {V : Type 0} → Phase → Phase → Collection V → List (Bool × Collection V) → List (Bool × Collection V)
ended Phase.Idle now c rest = rest
ended Phase.Mark Phase.Idle c rest = (true, c) ∷ rest
ended Phase.Mark Phase.Mark c rest = rest
ended Phase.Mark Phase.Sweep c rest = rest
ended Phase.Sweep Phase.Idle c rest = (true, c) ∷ rest
ended Phase.Sweep Phase.Mark c rest = rest
ended Phase.Sweep Phase.Sweep c rest = rest

abbrev pub unfinished : {V : Type 0} → Phase → Collection V → List (Bool × Collection V)
unfinished Phase.Idle c = []
unfinished Phase.Mark c = (false, c) ∷ []
unfinished Phase.Sweep c = (false, c) ∷ []

abbrev pub collections_from : {V : Type 0} → Collection V → State V → List (Event V) → List (Bool × Collection V)
collections_from c s [] = unfinished s.phase c
collections_from c s (e ∷ es) =
    ended s.phase (next s e).phase (onward s e c) (collections_from (onward s e c) (next s e) es)

-- A store that is idle has no collection going on: what is handed on first is never listed.
abbrev pub collections : {V : Type 0} → State V → List (Event V) → List (Bool × Collection V)
collections s es = collections_from (beginning s) s es
