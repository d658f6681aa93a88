-- The laws of every run.
use Rattle.std.specs.Prelude.{◌≡◌, ℕ, ◌+◌, ◌-◌, ◌/◌, ◌<◌, ◌≤◌, max, Bool, true, false, if◌then◌else◌, ◌⊎◌, List, [], ◌∷◌, ◌++◌, map, length, Ok, Err}
use Rattle.bank.specs.declared.word.Word.{Word}
use Rattle.listcalls.specs.declared.call.Call.{Call}
use Rattle.listcalls.specs.declared.call.Answer.{Answer}
use Rattle.listcalls.specs.declared.fault.StoreFault.{StoreFault}
use Rattle.listcalls.specs.declared.phase.Phase.{Phase}
use Rattle.collector.specs.Lists.{Mem, Distinct, Each, AtMost}
use Rattle.collector.specs.States.{State, Fixed, Atoms, size, at, new}
use Rattle.collector.specs.Turns.{freed_in, turn}
use Rattle.collector.specs.Outcomes.{Outcome, registers_of, absent}
use Rattle.collector.specs.Endless.{Endless, start, feed}
use Rattle.collector.specs.Reach.{Reachable, ReachableIn, Free, free_list}
use Rattle.collector.specs.Runs.{Event, makes_turn, next, outcome, final, outcomes, calls_of, Keeps, Admissible, Ruled, Collection, collections}

-- What the interfaces below a store promise: the bank's law, and the effort's bounds from below.
pub record Grounded {V : Type 0} (fixed : Fixed V) (size : ℕ) : Type 0 where
  pub few : size ≤ 4096
  pub wide : 4095 ≤ fixed.atoms.limit
  pub scans_some : 1 ≤ fixed.k1
  pub sweeps_some : 1 ≤ fixed.k2

-- Refused for want of a cell.
abbrev pub lacks_by : StoreFault → Bool
lacks_by (StoreFault.Bank fault) = false
lacks_by (StoreFault.NoRegister r) = false
lacks_by (StoreFault.NotACell r) = false
lacks_by (StoreFault.NoFreeCell work) = true

abbrev pub lacks : {V : Type 0} → Outcome V → Bool
lacks (Ok a) = false
lacks (Err fault) = lacks_by fault

-- The outcomes, and the calls, without those refused for want of a cell.
abbrev pub unless : {A : Type 0} → Bool → A → List A → List A
unless true x xs = xs
unless false x xs = x ∷ xs

abbrev pub remaining : {V : Type 0} → List (Outcome V) → List (Outcome V)
remaining [] = []
remaining (o ∷ os) = unless (lacks o) o (remaining os)

abbrev pub fed_calls : {V : Type 0} → List (Call V) → List (Outcome V) → List (Call V)
fed_calls [] os = []
fed_calls (c ∷ cs) [] = []
fed_calls (c ∷ cs) (o ∷ os) = unless (lacks o) c (fed_calls cs os)

-- What the endless heap answers to a list of calls.
abbrev pub endless_outcomes : {V : Type 0} → Atoms V → Endless → List (Call V) → List (Outcome V)
endless_outcomes atoms e [] = []
endless_outcomes atoms e (c ∷ cs) = (feed atoms e c).outcome ∷ endless_outcomes atoms (feed atoms e c).state cs

-- An outcome without the work of a cons, which is not compared.
abbrev pub plain : {V : Type 0} → Answer V → Answer V
plain Answer.Done = Answer.Done
plain (Answer.Worked work) = Answer.Worked 0
plain (Answer.Saw seen) = Answer.Saw seen
plain (Answer.Same same) = Answer.Same same

abbrev pub without_work : {V : Type 0} → Outcome V → Outcome V
without_work (Ok a) = Ok (plain a)
without_work (Err fault) = Err fault

-- Answers equal the endless heap's: leave out the calls refused for want of a cell, and each remaining call got the answer, or the refusal with all it returns, that the endless heap gives when it is fed the remaining calls alone.
abbrev pub AnswersEqual : {V : Type 0} → Atoms V → List (Call V) → List (Outcome V) → Type 0
AnswersEqual atoms cs os = map without_work (remaining os) ≡ endless_outcomes atoms start (fed_calls cs os)

-- A finished collection freed exactly the cells that were neither reachable nor free when it began, each once.
pub record FreedExactly {V : Type 0} (c : Collection V) : Type 0 where
  pub once : Distinct c.freed_cells
  pub only : (n : ℕ) → Mem n c.freed_cells → (n < size c.began) × (Reachable c.began n → ⊥) × (Free c.began n → ⊥)
  pub all : (n : ℕ) → n < size c.began → (Reachable c.began n → ⊥) → (Free c.began n → ⊥) → Mem n c.freed_cells

abbrev pub ExactIf : {V : Type 0} → Bool × Collection V → Type 0
ExactIf (true, c) = FreedExactly c
ExactIf (false, c) = Unit {0}

abbrev pub Reclaims : {V : Type 0} → State V → List (Event V) → Type 0
Reclaims s es = Each ExactIf (collections s es)

-- The quotient rounded up.
abbrev pub ceiling : ℕ → ℕ → ℕ
ceiling a k = (a + (k - 1)) / k

-- At most A cells of the endless heap are reachable, at the start and after each call.
abbrev pub Within : {V : Type 0} → ℕ → Atoms V → Endless → List (Call V) → Type 0
Within A atoms e [] = AtMost A (ReachableIn e)
Within A atoms e (c ∷ cs) = AtMost A (ReachableIn e) × Within A atoms (feed atoms e c).state cs

-- The starvation bound. T is how many turns marking takes at most.
abbrev pub turns_for : ℕ → ℕ → ℕ
turns_for A k1 = max 1 (ceiling A k1)

pub record Enough (A k1 k2 M N : ℕ) : Type 0 where
  pub reserve : 1 + turns_for A k1 + ceiling (A + M) k2 ≤ M
  pub room : 1 + turns_for A k1 + M + A + ceiling N k2 ≤ N

-- No starvation: under the bound no call was refused for want of a cell.
abbrev pub NeverLacks : {V : Type 0} → Fixed V → ℕ → List (Call V) → List (Outcome V) → Type 0
NeverLacks fixed size cs os =
    (A : ℕ) → Within A fixed.atoms start (fed_calls cs os) → Enough A fixed.k1 fixed.k2 fixed.floor size
    → Each (λ o. lacks o ≡ false) os

-- The three laws together, of the run of the given events from a new store.
pub record LawfulRun {V : Type 0} (fixed : Fixed V) (size : ℕ) (es : List (Event V)) : Type 0 where
  pub answers : AnswersEqual fixed.atoms (calls_of es) (outcomes (new fixed size) es)
  pub reclaims : Reclaims (new fixed size) es
  pub never_lacks : NeverLacks fixed size (calls_of es) (outcomes (new fixed size) es)

-- What the call that makes a run promises: there is a run of these calls with these outcomes, from a new store to this state, whose rule's answers keep to the law of start rules; and of that run the three laws.
pub record RunOf {V : Type 0} (fixed : Fixed V) (size : ℕ) (calls : List (Call V)) (os : List (Outcome V)) (last : State V) : Type 0 where
  pub events : List (Event V)
  pub made : calls_of events ≡ calls
  pub answered : outcomes (new fixed size) events ≡ os
  pub ended : final (new fixed size) events ≡ last
  pub admissible : Admissible (new fixed size) events
  pub lawful : LawfulRun fixed size events

-- The same under a start rule: the answers in the run are those that the rule gave, from what it was before to what it is after.
pub record RuledRun {V R : Type 0} (says : R → ℕ → Bool) (becomes : R → ℕ → R → Type 0) (fixed : Fixed V) (size : ℕ) (rule : R) (calls : List (Call V)) (os : List (Outcome V)) (last : State V) (after : R) : Type 0 where
  pub run : RunOf fixed size calls os last
  pub ruled : Ruled says becomes (new fixed size) rule run.events after

-- They hold of every run, for any effort, any bank that keeps the law of banks, any start rule that keeps the law of start rules, any kind of atom and any list of calls.
abbrev pub EveryRunLawful : Type 0 → Type 0
EveryRunLawful V = (fixed : Fixed V) (size : ℕ) → Grounded fixed size → (es : List (Event V)) → Admissible (new fixed size) es → LawfulRun fixed size es

-- A state in which no cell has two owners: what is reachable lies within the bank and is not free; the free list has each cell once, and as many as the count says; and while the sweep goes on, what is reachable from its place on is marked.
pub record Safe {V : Type 0} (s : State V) : Type 0 where
  pub inside : (n : ℕ) → Reachable s n → n < size s
  pub owned : (n : ℕ) → Reachable s n → Free s n → ⊥
  pub once : Distinct (free_list s)
  pub counted : length (free_list s) ≡ s.pool.count
  pub ahead : s.phase ≡ Phase.Sweep → (n : ℕ) → s.pool.sweeper ≤ n → Reachable s n → (at s.heap.cells n).mark ≡ true

-- After every call of every run, since what begins a run is a run.
abbrev pub EveryStateSafe : Type 0 → Type 0
EveryStateSafe V = (fixed : Fixed V) (size : ℕ) → Grounded fixed size → (es : List (Event V)) → Safe (final (new fixed size) es)

-- The cells that a call frees: those of its turn, if it makes one.
abbrev pub freed_by : {V : Type 0} → State V → Call V → List ℕ
freed_by s c = if makes_turn (absent (registers_of c)) c then freed_in s.phase s else []

-- That a cell was taken: the call was answered with the work of a turn, after which the cell was the head of the free list.
pub record Taken {V : Type 0} (o : Outcome V) (turned : State V) (n : ℕ) : Type 0 where
  pub work : ℕ
  pub answered : o ≡ Ok (Answer.Worked work)
  pub head : turned.pool.head ≡ Word.Cell n

-- The cells that are free after a call are those that were free before it or that its turn freed, but for the one that it took.
pub record FreeFollows {V : Type 0} (s : State V) (e : Event V) : Type 0 where
  pub only : (n : ℕ) → Free (next s e) n → (Free s n ⊎ Mem n (freed_by s e.call)) × (Taken (outcome s e) (turn e.says s) n → ⊥)
  pub all : (n : ℕ) → Free s n ⊎ Mem n (freed_by s e.call) → (Taken (outcome s e) (turn e.says s) n → ⊥) → Free (next s e) n
  pub was : (n : ℕ) → Taken (outcome s e) (turn e.says s) n → Free s n ⊎ Mem n (freed_by s e.call)

-- So a cell is free from the making of the store, or from being freed, until it is taken.
pub record FreeUntilTaken (V : Type 0) : Type 0 where
  pub made : (fixed : Fixed V) (size : ℕ) → Grounded fixed size → (n : ℕ) → n < size → Free (new fixed size) n
  pub kept : (fixed : Fixed V) (size : ℕ) → Grounded fixed size → (es : List (Event V)) (e : Event V) → FreeFollows (final (new fixed size) es) e

-- What a refusal leaves: for want of a cell, the registers and the words of reachable cells; for any other cause, everything.
pub record Unharmed {V : Type 0} (s : State V) (e : Event V) : Type 0 where
  pub registers : lacks (outcome s e) ≡ true → (next s e).registers ≡ s.registers
  pub words : lacks (outcome s e) ≡ true → (n : ℕ) → Reachable s n
      → ((at (next s e).heap.cells n).car ≡ (at s.heap.cells n).car) × ((at (next s e).heap.cells n).cdr ≡ (at s.heap.cells n).cdr)
  pub rest : (fault : StoreFault) → outcome s e ≡ Err fault → lacks_by fault ≡ false → next s e ≡ s

abbrev pub RefusalsHarmless : Type 0 → Type 0
RefusalsHarmless V = (fixed : Fixed V) (size : ℕ) → Grounded fixed size → (es : List (Event V)) (e : Event V) → Unharmed (final (new fixed size) es) e

-- How many turns a collection takes at most after the one that begins it.
abbrev pub Brief : {V : Type 0} → Bool × Collection V → Type 0
Brief (finished, c) =
    c.mark_turns + c.sweep_turns ≤ ceiling (size c.began) c.began.fixed.k1 + ceiling (size c.began) c.began.fixed.k2 + 2

abbrev pub CollectionsBrief : Type 0 → Type 0
CollectionsBrief V = (fixed : Fixed V) (size : ℕ) → Grounded fixed size → (es : List (Event V)) → Each Brief (collections (new fixed size) es)

-- A run can be made call by call: it begins with none, and each call more, with an answer of the rule that keeps to its law, is a run again.
abbrev pub RunsGrow : Type 0 → Type 0
RunsGrow V =
    (fixed : Fixed V) (size : ℕ) → Grounded fixed size → RunOf fixed size [] [] (new fixed size)
    × ((cs : List (Call V)) (os : List (Outcome V)) (s : State V) → RunOf fixed size cs os s → (e : Event V) → Keeps s e.says
    → RunOf fixed size (cs ++ e.call ∷ []) (os ++ outcome s e ∷ []) (next s e))
