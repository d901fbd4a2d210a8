-- Why a command was not done, by why what it calls was not.
use Rattle.std.proofs.Common.{◌≡◌, ◌≢◌, ◌∙◌, List, ℕ, Option, Result, Err, refl, ap, sym, subst}
use Rattle.std.specs.Prelude.{string_bytes}
use Rattle.gq_model.specs.declared.fault.TurnFault.{TurnFault}
use Rattle.gq_model.specs.machine.Scenario.{Scenario}
use Rattle.gq_model.specs.texts.Turns.{listed}
use Rattle.gq_output.specs.declared.counted.Counted.{Counted}
use Rattle.gq_output.specs.Writer_failures.{written_to}
use Rattle.gq_reports.specs.Command_outcomes.{GivesOf, IsBefore, IsCutShort, IsFaultOf, WritesAs, run_fault_text}
use Rattle.gq_reports.specs.Whole.{Written, refused_with, run_written}
use Rattle.gq_reports.specs.declared.run_fault.RunFault.{RunFault}
use Rattle.gq_reports.specs.declared.run_fault.RunFault.TheVariants as faults
use Rattle.gq_cli.specs.Early_command_ends.{Ended, IsKnown, IsSilent, IsReportedAs, LeavesWriter}
use Rattle.gq_cli.specs.Executed.{Asked, IsRefusedBy, ReadsText, WritesCut, both_written, leaf_written, scenario_written, Of_scenario, Of_leaf, Of_both}
use Rattle.gq_command.specs.declared.command.LeafCommand.{LeafCommand}
use Rattle.gq_command.specs.declared.command.ScenarioCommand.{ScenarioCommand}
use Rattle.gq_command.specs.declared.command.TurnsCommand.{TurnsCommand}
use Rattle.gq_cli.specs.declared.execute.CommandFault.{CommandFault}
use Rattle.gq_cli.specs.declared.execute.CommandFault.TheVariants.{Refused, Memory, Read, Write}
use Rattle.gq_cli.specs.internal.Running.{ReadsTurns, RefusesAs}
use Rattle.gq_cli.proofs.Read_turn_run.{reads_by, refused_by, turns_refused}

refused_line : (w : Written) (f : RunFault) (line : List ℕ) → IsFaultOf f w → f ≢ faults.Memory → f ≢ faults.Write → line ≡ refused_with (run_fault_text f)
    → w ≡ Err line
refused_line w (faults.Load f) line h m u e = h ∙ ap Err (sym e)
refused_line w (faults.NoComponent name) line h m u e = h ∙ ap Err (sym e)
refused_line w (faults.NoOutcome number) line h m u e = h ∙ ap Err (sym e)
refused_line w (faults.Turns f k) line h m u e = h ∙ ap Err (sym e)
refused_line w faults.Memory line h m u e = absurd (m refl)
refused_line w faults.Write line h m u e = absurd (u refl)

-- what is asked for is given by this definition
pub record IsGivenBy (asked : Asked) (w : Written) : Type 0 where
  pub refused : (line : List ℕ) → w ≡ Err line → IsRefusedBy asked line
  pub cut : (before after : Option (List ℕ)) → IsCutShort w before after → WritesCut asked before after

ends : (asked : Asked) (w : Written) → IsGivenBy asked w → (before after : Option (List ℕ)) (f : RunFault) (r : CommandFault) → IsReportedAs f r → IsFaultOf f w
    → (f ≡ faults.Write → IsCutShort w before after) → IsKnown {A = Unit {0}} (Err r) → Ended {A = Unit {0}} (Err r) before after asked
ends asked w by before after f (Refused line) reported h cut known =
    by.refused (string_bytes line) (refused_line w f (string_bytes line) h reported.0 reported.1 reported.2)
ends asked w by before after f Memory reported h cut known = absurd known
ends asked w by before after f Read reported h cut known = absurd known
ends asked w by before after f Write reported h cut known = by.cut before after (cut reported)

same_fault : (a b : CommandFault) → ◌≡◌ {A = Result (Unit {0}) CommandFault} (Err a) (Err b) → a ≡ b
same_fault a b e = cc

before : (f : RunFault) → f ≢ faults.Write → IsBefore f
before (faults.Load f) u = tt {0}
before (faults.NoComponent name) u = tt {0}
before (faults.NoOutcome number) u = tt {0}
before (faults.Turns f k) u = tt {0}
before faults.Memory u = tt {0}
before faults.Write u = absurd (u refl)

reported_silent : (f : RunFault) (r : CommandFault) → IsReportedAs f r → IsSilent r → IsBefore f
reported_silent f (Refused line) reported silent = before f reported.1
reported_silent f Memory reported silent = before f reported
reported_silent f Read reported silent = absurd reported
reported_silent f Write reported silent = absurd silent

reported_written : (f : RunFault) (r : CommandFault) → IsReportedAs f r → r ≡ Write → f ≡ faults.Write
reported_written f r reported e = subst (IsReportedAs f) e reported

pub by_scenario : (command : ScenarioCommand) (scenario : List ℕ) → IsGivenBy (Of_scenario command scenario) (scenario_written command scenario)
by_scenario command scenario = record { refused = λ line e. e; cut = λ before after c. c }

pub by_leaf : (command : LeafCommand) (scenario leaf : List ℕ) → IsGivenBy (Of_leaf command scenario leaf) (leaf_written command scenario leaf)
by_leaf command scenario leaf = record { refused = λ line e. e; cut = λ before after c. c }

pub by_both : (command : TurnsCommand) (scenario turns : List ℕ) → IsGivenBy (Of_both command scenario turns) (both_written command scenario turns)
by_both command scenario turns = record { refused = λ line e. e; cut = λ before after c. c }

-- what is called was not done

module _ {W : Type 0} (contents : W → Option (List ℕ)) (asked : Asked) (w : Written) (by : IsGivenBy asked w) (old new : Counted W) (f : RunFault)
    (r : CommandFault) (reported : IsReportedAs f r) (h : WritesAs {A = Unit {0}} contents w old new (Err f)) where
  pub reported_ends : IsKnown {A = Unit {0}} (Err r) → Ended {A = Unit {0}} (Err r) (written_to contents old) (written_to contents new) asked
  reported_ends = ends asked w by (written_to contents old) (written_to contents new) f r reported h.refused (λ e. h.cut (ap Err e))

  pub reported_leaves : LeavesWriter {A = Unit {0}} old new (Err r)
  reported_leaves =
      record {
        counted = tt;
        silent = λ s. h.silent (reported_silent f r reported s);
        raised = λ e. h.raised (ap Err (reported_written f r reported (same_fault r Write e)));
      }

-- a scenario that is refused, and turns that are

gives_before : (f : RunFault) (scenario : List ℕ) → GivesOf f scenario → f ≢ faults.Write
gives_before f scenario gives e = subst (λ x. GivesOf x scenario) e gives

pub reported_refuses : (f : RunFault) (scenario text : List ℕ) (r : CommandFault) → GivesOf f scenario → IsReportedAs f r → RefusesAs
    (run_written scenario text) r
reported_refuses f scenario text (Refused line) gives reported = refused_by f scenario text (string_bytes line) gives reported.0 reported.2
reported_refuses f scenario text Memory gives reported = tt {0}
reported_refuses f scenario text Read gives reported = tt {0}
reported_refuses f scenario text Write gives reported = gives_before f scenario gives reported

pub refusal_silent : (f : RunFault) (scenario : List ℕ) (r : CommandFault) → GivesOf f scenario → IsReportedAs f r → IsSilent r
refusal_silent f scenario (Refused line) gives reported = tt {0}
refusal_silent f scenario Memory gives reported = tt {0}
refusal_silent f scenario Read gives reported = tt {0}
refusal_silent f scenario Write gives reported = gives_before f scenario gives reported

pub reported_turns : (s : Scenario) (old new : Option (List ℕ)) (fault : TurnFault) (k : ℕ) (r : CommandFault) → IsReportedAs (faults.Turns fault k) r
    → ReadsText old new (λ text. listed s text ≡ Err (fault, k)) → ReadsTurns s old new (Err r)
reported_turns s old new fault k (Refused line) reported h = reads_by old new (λ text e. turns_refused s text (string_bytes line) fault k e reported.2) h
reported_turns s old new fault k Memory reported h = tt {0}
reported_turns s old new fault k Read reported h = tt {0}
reported_turns s old new fault k Write reported h = tt {0}

pub turns_silent : (fault : TurnFault) (k : ℕ) (r : CommandFault) → IsReportedAs (faults.Turns fault k) r → IsSilent r
turns_silent fault k (Refused line) reported = tt {0}
turns_silent fault k Memory reported = tt {0}
turns_silent fault k Read reported = tt {0}
turns_silent fault k Write reported = cc reported
