-- Under the floor rule the calls alone say how a run goes.
use Rattle.std.proofs.Common.{◌≡◌, ℕ, List, [], ◌∷◌, length, sym, refl, ap, ◌∙◌}
use Rattle.std.proofs.lemmas.Bool.{le-leb}
use Rattle.bank.specs.Banks.{Sound}
use Rattle.bank.specs.declared.word.Cell.{Cell}
use Rattle.collector.specs.Laws.{Grounded, LawfulRun}
use Rattle.collector.specs.Runs.{Event, Collection, next, onward, beginning, Admissible, RuleAfter, under_floor}
use Rattle.collector.specs.States.{Fixed, State, new}
use Rattle.listcalls.specs.declared.call.Call.{Call}
use Rattle.collector.proofs.Invariant.{Inv}
use Rattle.collector.proofs.Laws.{every_run_lawful}
use Rattle.collector.proofs.Moves.{next-fixed}
use Rattle.collector.proofs.Start.{new-keeps}
use Rattle.collector.proofs.Steps.{step_keeps}
use Rattle.pacing.specs.Floors.{floor_becomes}
use Rattle.pacing.specs.declared.floor.FloorRule.{FloorRule}
use Rattle.plan.specs.declared.line.Line.{Line}
use Rattle.replies.specs.declared.opening.Opening.{Opening}
use Rattle.replies.specs.Requests.{calls_of_lines}
use Rattle.replies.specs.Sessions.{plan_fixed, events_of}
use Rattle.std.specs.Prelude.{Bool, true, false, nat_le}

-- The floor rule stays, asked or not.
pub stays : (asked : Bool) (r : FloorRule) (count : ℕ) (then : FloorRule) → RuleAfter floor_becomes asked r count then → then ≡ r
stays true r count then h = h
stays false r count then h = h

-- The floor rule says yes at its floor, and no call changes the floor.
admissible-under : {V : Type 0} (floor : ℕ) (c : Collection V) (s : State V) → Inv c s → s.fixed.floor ≡ floor → (cs : List (Call V)) → Admissible s (under_floor floor s cs)
admissible-under floor c s i e [] = tt
admissible-under {V} floor c s i e (k ∷ ks) =
    let v : Event V = record { call = k; says = nat_le s.pool.count floor } in (
      λ idle low. le-leb s.pool.count floor (rw (sym e) low),
      admissible-under floor (onward s v c) (next s v) (step_keeps i v) (ap (λ (f : Fixed V). f.floor) (next-fixed i v) ∙ e) ks,
    )

-- The laws hold of a run under the floor rule.
lawful_under_floor : {V : Type 0} (fixed : Fixed V) (size : ℕ) → Grounded fixed size → (cs : List (Call V))
    → LawfulRun fixed size (under_floor fixed.floor (new fixed size) cs)
lawful_under_floor fixed size ground cs =
    every_run_lawful fixed size ground (under_floor fixed.floor (new fixed size) cs)
    (admissible-under fixed.floor (beginning (new fixed size)) (new fixed size) (new-keeps fixed size ground) refl cs)

-- The same of a plan's run over a bank that keeps its law.
pub plan_lawful : (limit : ℕ) (cells : List Cell) → Sound limit cells → (opening : Opening) (ls : List Line)
    → LawfulRun (plan_fixed limit opening) (length cells) (events_of limit (length cells) opening ls)
plan_lawful limit cells sound opening ls =
    let ground : Grounded (plan_fixed limit opening) (length cells) = record {
      few = sound.few;
      wide = sound.wide;
      scans_some = opening.effort.fits.0.0;
      sweeps_some = opening.effort.fits.1.0;
    } in
    lawful_under_floor (plan_fixed limit opening) (length cells) ground (calls_of_lines ls)
