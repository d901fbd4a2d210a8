-- Inputs that were read, and what is asked of them.
use Rattle.std.proofs.Common.{◌≡◌, ◌≢◌, Bool, true, false, List, ℕ, Option, Result, Ok, Err, OnOk, Global, Some, None, option_map, refl, subst}
use Rattle.std.specs.Prelude.{String, string_bytes}
use Rattle.gq_cli.specs.declared.execute.CommandFault.{CommandFault}
use Rattle.gq_cli.specs.declared.execute.CommandFault.TheVariants.{Refused, Write}
use Rattle.gq_cli.specs.Early_command_ends.{Ended, EndedFaults, IsKnown}
use Rattle.gq_command.specs.declared.command.Command.{Command}
use Rattle.gq_command.specs.declared.command.Command.TheVariants.{OfScenario, OfLeaf, OfTurns, Fit, Faults, Rule, Version, Stored, Help}
use Rattle.gq_command.specs.declared.command.TurnsCommand.{TurnsCommand}
use Rattle.gq_command.specs.declared.command.TurnsCommand.TheVariants.{Run, Trace, TraceAll, State, Peaks}
use Rattle.gq_output.specs.declared.counted.Counted.{Counted}
use Rattle.gq_rule_texts.specs.Rule_tables.{Table}
use Rattle.gq_command.specs.Stored_run.{parted}
use Rattle.gq_cli.specs.Executed.{Asked, Of_scenario, Of_leaf, Of_both, Of_fit, Of_faults, Of_nothing, Executes}
use Rattle.gq_cli.specs.Executed.{IsInput, IsRefusal, IsReported, IsUpheldBy, ReadsBoth}
use Rattle.gq_cli.specs.Executed.{ReportsAll, ReportsPart, WritesCut, WritesWhole, rules_written, version_written, writes_refusals}

module _ (scenario scenario_left turns turns_left : Option (List ℕ)) (asked : List ℕ → List ℕ → Asked) (holds : Asked → Type 0) where
  pub reads_both : (s t s' t' : List ℕ) → IsInput scenario scenario_left s → IsInput turns turns_left t → s' ≡ s → t' ≡ t → holds (asked s' t')
      → ReadsBoth scenario scenario_left turns turns_left asked holds
  reads_both s t s' t' a b e f h = record {
    scenario_text = s;
    turns_text = t;
    scenario_read = a;
    turns_read = b;
    so = subst (λ x. holds (asked s x)) f (subst (λ x. holds (asked x t')) e h);
  }

-- after a failed write a prefix of the text was written
pub cut_short : (A : Type 0) (E : (Asked → Type 0) → Type 0) (f : CommandFault) (before after : Option (List ℕ)) → f ≡ Write
    → (IsKnown {A = A} (Err f) → E (Ended {A = A} (Err f) before after)) → E (λ asked. WritesCut asked before after)
cut_short A E f before after e h = subst (λ x. IsKnown {A = A} (Err x) → E (Ended {A = A} (Err x) before after)) e h (tt {0})

-- what holds of all that is asked holds of what a command asks
pub executes_by : (table : Table) (command : Command) (scenario scenario_left turns turns_left : Option (List ℕ)) (P Q : Asked → Type 0)
    → ((asked : Asked) → P asked → Q asked)
    → Executes table command scenario scenario_left turns turns_left P → Executes table command scenario scenario_left turns turns_left Q
executes_by table (OfScenario command s) scenario scenario_left turns turns_left P Q so h =
    record { text = h.text; read = h.read; so = so (Of_scenario command h.text) h.so }
executes_by table (OfLeaf command s leaf) scenario scenario_left turns turns_left P Q so h =
    record { text = h.text; read = h.read; so = so (Of_leaf command h.text (string_bytes leaf)) h.so }
executes_by table (OfTurns command s t) scenario scenario_left turns turns_left P Q so h = record {
  scenario_text = h.scenario_text;
  turns_text = h.turns_text;
  scenario_read = h.scenario_read;
  turns_read = h.turns_read;
  so = so (Of_both command h.scenario_text h.turns_text) h.so;
}
executes_by table (Fit fitting s) scenario scenario_left turns turns_left P Q so h =
    record { text = h.text; read = h.read; so = so (Of_fit fitting h.text) h.so }
executes_by table (Faults a None) scenario scenario_left turns turns_left P Q so h =
    record { text = h.text; read = h.read; so = so (Of_faults (string_bytes a) h.text None) h.so }
executes_by table (Faults a (Some b)) scenario scenario_left turns turns_left P Q so h = record {
  scenario_text = h.scenario_text;
  turns_text = h.turns_text;
  scenario_read = h.scenario_read;
  turns_read = h.turns_read;
  so = so (Of_faults (string_bytes a) h.scenario_text (Some (string_bytes b, h.turns_text))) h.so;
}
executes_by table Stored scenario scenario_left turns turns_left P Q so h =
    record { text = h.text; read = h.read; so = so (Of_both Run (parted h.text).0 (parted h.text).1) h.so }
executes_by table (Rule code) scenario scenario_left turns turns_left P Q so h = so (Of_nothing (rules_written table (option_map string_bytes code))) h
executes_by table Version scenario scenario_left turns turns_left P Q so h = so (Of_nothing version_written) h
executes_by table (Help text) scenario scenario_left turns turns_left P Q so h = so (Of_nothing (Ok (string_bytes text))) h

-- where the texts are refused, the line that says why was reported
pub refused_reported : (A : Type 0) {E : Type 0} (contents : E → Option (List ℕ)) (old new : Counted E) (table : Table) (command : Command)
    (scenario scenario_left turns turns_left : Option (List ℕ)) (f : CommandFault) (line : String Global) (before after : Option (List ℕ)) → f ≡ Refused line
    → (IsKnown {A = A} (Err f) → Executes table command scenario scenario_left turns turns_left (Ended {A = A} (Err f) before after))
    → IsReported contents old new (string_bytes line)
    → Executes table command scenario scenario_left turns turns_left (λ asked. IsRefusal contents asked old new)
refused_reported A contents old new table command scenario scenario_left turns turns_left f line before after e h reported =
    executes_by table command scenario scenario_left turns turns_left (Ended {A = A} (Err (Refused line)) before after)
    (λ asked. IsRefusal contents asked old new)
    (λ asked r. record { line = string_bytes line; refused = r; reported = reported })
    (subst (λ x. IsKnown {A = A} (Err x) → Executes table command scenario scenario_left turns turns_left (Ended {A = A} (Err x) before after)) e h (tt {0}))

-- what is asked of a scenario and turns is not their run, so that nothing more is promised
not_run : (command : TurnsCommand) (scenario turns : List ℕ) (before after : Option (List ℕ)) → command ≢ Run
    → IsUpheldBy (Of_both command scenario turns) before after
not_run Run scenario turns before after ne = absurd (ne refl)
not_run Trace scenario turns before after ne = tt {0}
not_run TraceAll scenario turns before after ne = tt {0}
not_run (State first) scenario turns before after ne = tt {0}
not_run Peaks scenario turns before after ne = tt {0}

pub upheld_otherwise : (scenario scenario_left turns turns_left : Option (List ℕ)) (command : TurnsCommand) (result : Result (Unit {0}) CommandFault)
    (before after : Option (List ℕ)) → command ≢ Run
    → (IsKnown result → ReadsBoth scenario scenario_left turns turns_left (Of_both command) (Ended result before after))
    → OnOk result (ReadsBoth scenario scenario_left turns turns_left (Of_both command) (λ asked. IsUpheldBy asked before after))
upheld_otherwise scenario scenario_left turns turns_left command (Ok done) before after ne ended =
    let r : ReadsBoth scenario scenario_left turns turns_left (Of_both command) (Ended (Ok done) before after) = ended (tt {0}) in
    record {
      scenario_text = r.scenario_text;
      turns_text = r.turns_text;
      scenario_read = r.scenario_read;
      turns_read = r.turns_read;
      so = not_run command r.scenario_text r.turns_text before after ne;
    }
upheld_otherwise scenario scenario_left turns turns_left command (Err fault) before after ne ended = tt {0}

-- what a command comes to, whether all that is wrong is asked for or something else
module _ (table : Table) (command : Command) (scenario scenario_left turns turns_left before after : Option (List ℕ)) (m n : ℕ) where
  abbrev Come : (Asked → Type 0) → Type 0
  Come = Executes table command scenario scenario_left turns turns_left

  pub done_either : (b : Bool) → writes_refusals command ≡ b → (writes_refusals command ≡ false → Come (Ended {A = Unit {0}} (Ok tt) before after))
      → (writes_refusals command ≡ true → Come (EndedFaults {A = Unit {0}} (Ok tt) before after m n)) → Come (λ asked. WritesWhole asked before after)
  done_either true e h g = g e
  done_either false e h g = h e

  module _ {E : Type 0} (contents : E → Option (List ℕ)) (old new : Counted E) (f : CommandFault) (line : String Global) (is : f ≡ Refused line)
      (reported : IsReported contents old new (string_bytes line)) where
    pub refused_either : (b : Bool) → writes_refusals command ≡ b
        → (writes_refusals command ≡ false → IsKnown {A = Unit {0}} (Err f) → Come (Ended {A = Unit {0}} (Err f) before after))
        → (writes_refusals command ≡ true → IsKnown {A = Unit {0}} (Err f) → Come (EndedFaults {A = Unit {0}} (Err f) before after m n))
        → Come (λ asked. IsRefusal contents asked old new)
    refused_either false e h g =
        refused_reported (Unit {0}) contents old new table command scenario scenario_left turns turns_left f line before after is (h e) reported
    refused_either true e h g =
        executes_by table command scenario scenario_left turns turns_left (EndedFaults {A = Unit {0}} (Err (Refused line)) before after m n)
        (λ asked. IsRefusal contents asked old new) (λ asked r. record { line = string_bytes line; refused = r.0; reported = reported })
        (subst (λ x. IsKnown {A = Unit {0}} (Err x) → Come (EndedFaults {A = Unit {0}} (Err x) before after m n)) is (g e) (tt {0}))

  -- all that is wrong was reported
  pub all_reported : (f : CommandFault) (line : String Global) → f ≡ Refused line
      → (IsKnown {A = Unit {0}} (Err f) → Come (EndedFaults {A = Unit {0}} (Err f) before after m n)) → Come (λ asked. ReportsAll asked before after)
  all_reported f line is h =
      executes_by table command scenario scenario_left turns turns_left (EndedFaults {A = Unit {0}} (Err (Refused line)) before after m n)
      (λ asked. ReportsAll asked before after) (λ asked r. r.1)
      (subst (λ x. IsKnown {A = Unit {0}} (Err x) → Come (EndedFaults {A = Unit {0}} (Err x) before after m n)) is h (tt {0}))

  -- not all of it was written
  pub part_reported : (f : CommandFault) → f ≡ Write → (IsKnown {A = Unit {0}} (Err f) → Come (EndedFaults {A = Unit {0}} (Err f) before after m n))
      → Come (λ asked. ReportsPart asked before after m n)
  part_reported f is h = subst (λ x. IsKnown {A = Unit {0}} (Err x) → Come (EndedFaults {A = Unit {0}} (Err x) before after m n)) is h (tt {0})
