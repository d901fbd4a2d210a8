-- All that is wrong was reported, and then the texts are refused by the line of the first.
use Rattle.std.proofs.Common.{◌≡◌, ◌∙◌, ◌⊎◌, inl, inr, List, ℕ, [], ◌∷◌, Option, Result, Ok, Err, Some, None, IsOk, map, refl, ap, sym, subst, length}
use Rattle.std.specs.Prelude.{string_bytes}
use Rattle.std.proofs.Math.Seq.{take-length}
use Rattle.std.specs.Io.KnownBytes.{Appends, Keeps}
use Rattle.gq_output.proofs.Written_byte_facts.{appends_kept, appends_nothing}
use Rattle.gq_load.specs.Load_faults.{Prints, load_fault_text}
use Rattle.gq_load.specs.Load.{LoadRefusal, loaded}
use Rattle.gq_load.specs.declared.load_fault.LoadFault.{LoadFault}
use Rattle.gq_model.proofs.Small_facts.{none_some, some_same}
use Rattle.gq_model.specs.declared.fault.TurnFault.{TurnFault}
use Rattle.gq_model.specs.machine.Scenario.{Scenario}
use Rattle.gq_model.specs.texts.Turns.{Turned, turned}
use Rattle.gq_reports.specs.Command_outcomes.{IsWhole, run_fault_text}
use Rattle.gq_reports.specs.Whole.{refused_with, turn_fault_text, with_scenario}
use Rattle.gq_reports.specs.declared.run_fault.RunFault.TheVariants as faults
use Rattle.gq_faults.specs.First_stage_faults.{fault_lines, refusal_of}
use Rattle.gq_faults.specs.Found_lists.{first}
use Rattle.gq_faults.specs.Reported_faults.{EndsEarly, WritesFaults, WritesPrefix}
use Rattle.gq_faults.specs.Turn_faults.{Answers, fault_of_turns, lines_from, lines_of_both, reported_of, turn_fault_line, turn_faults}
use Rattle.gq_faults.specs.declared.turn_faults.Refused as why
use Rattle.gq_faults.specs.declared.turn_faults.Refused.TheVariants as answers
use Rattle.gq_cli.specs.Early_command_ends.{EndedFaults, IsKnown, IsReportedAs, IsUntold, refusal_fault}
use Rattle.gq_faults.specs.declared.report_error.ReportError.{ReportError}
use Rattle.gq_faults.specs.declared.report_error.ReportError.TheVariants as errors
use Rattle.gq_cli.specs.Executed.{Asked, Of_faults, ReportsPrefix, faults_written, none_written}
use Rattle.gq_cli.specs.declared.execute.CommandFault as unreported
use Rattle.gq_cli.specs.declared.execute.CommandFault.TheVariants.{Refused, Memory, Read, Write}

nothing : (before after : Option (List ℕ)) → after ≡ before → Appends before after []
nothing before after e = subst (λ o. Appends before o []) (sym e) (appends_nothing before)

-- A SCENARIO

module _ (path text : List ℕ) (before after : Option (List ℕ)) where
  refused_line : (f : LoadFault) (line : List ℕ) → Prints f (refusal_of (loaded text)) → line ≡ refused_with (load_fault_text f)
      → faults_written text None ≡ Err line
  refused_line f line h e = by (loaded text) h
    where
      by : (r : Result Scenario LoadRefusal) → Prints f (refusal_of r) → with_scenario r (λ s. Ok []) ≡ Err line
      by (Ok s) h = absurd h
      by (Err fault) h = ap Err (ap refused_with (sym h) ∙ sym e)

  pub refused_ends : (f : LoadFault) (r : unreported.CommandFault) (m n : ℕ) → Prints f (refusal_of (loaded text))
      → WritesFaults path (fault_lines text) before after
      → (r ≡ Write) ⊎ IsReportedAs (faults.Load f) r → IsKnown {A = Unit {0}} (Err r)
      → EndedFaults {A = Unit {0}} (Err r) before after m n (Of_faults path text None)
  refused_ends f (Refused line) m n h w (inl e) known = absurd cc
  refused_ends f (Refused line) m n h w (inr reported) known = (refused_line f (string_bytes line) h reported.2, w)
  refused_ends f Memory m n h w reported known = absurd known
  refused_ends f Read m n h w reported known = absurd known
  refused_ends f Write m n h w reported known = inr w

  pub none_ends : IsOk (loaded text) → after ≡ before → IsWhole (faults_written text None) before after
  none_ends h e = by (loaded text) h
    where
      by : (r : Result Scenario LoadRefusal) → IsOk r → IsWhole (with_scenario r (λ s. Ok [])) before after
      by (Ok s) h = record { text = []; given = refl; written = nothing before after e }
      by (Err fault) h = absurd cc

-- A SCENARIO AND TURNS

module _ (path other text turns : List ℕ) (before after : Option (List ℕ)) where
  turns_line : (t : Turned) (fault : TurnFault) (k : ℕ) (line : List ℕ) → fault_of_turns t ≡ Some (fault, k)
      → line ≡ refused_with (turn_fault_text fault k) → none_written t ≡ Err line
  turns_line (Ok ts) fault k line h e = absurd (none_some h)
  turns_line (Err p) fault k line h e = ap Err (ap (λ (q : TurnFault × ℕ). refused_with (turn_fault_text q.0 q.1)) (some_same h) ∙ sym e)

  both_line : (w : why.Refused) (line : List ℕ) → Answers (Some w) (loaded text) turns → line ≡ refused_with (run_fault_text (refusal_fault w))
      → faults_written text (Some turns) ≡ Err line
  both_line w line h e = by (loaded text) w h e
    where
      by : (r : Result Scenario LoadRefusal) (w : why.Refused) → Answers (Some w) r turns → line ≡ refused_with (run_fault_text (refusal_fault w))
          → with_scenario r (λ s. none_written (turned s turns)) ≡ Err line
      by (Err fault) (answers.Scenario f) h e = ap Err (ap refused_with (sym h) ∙ sym e)
      by (Err fault) (answers.Turns f k) h e = absurd h
      by (Ok s) (answers.Scenario f) h e = absurd h
      by (Ok s) (answers.Turns f k) h e = turns_line (turned s turns) f k line h e

  pub both_ends : (w : why.Refused) (r : unreported.CommandFault) (m n : ℕ) → Answers (Some w) (loaded text) turns
      → WritesFaults (reported_of (loaded text) path other) (lines_of_both text turns) before after → (r ≡ Write) ⊎ IsReportedAs (refusal_fault w) r
      → IsKnown {A = Unit {0}} (Err r) → EndedFaults {A = Unit {0}} (Err r) before after m n (Of_faults path text (Some (other, turns)))
  both_ends w (Refused line) m n h f (inl e) known = absurd cc
  both_ends w (Refused line) m n h f (inr reported) known = (both_line w (string_bytes line) h reported.2, f)
  both_ends w Memory m n h f reported known = absurd known
  both_ends w Read m n h f reported known = absurd known
  both_ends w Write m n h f reported known = inr f

  -- nothing was reported
  reported_none : (front : List ℕ) (faults : List (List ℕ)) → faults ≡ [] → WritesFaults front faults before after → Appends before after []
  reported_none front faults e h = by (subst (λ l. WritesFaults front l before after) e h)
    where
      by : WritesFaults front [] before after → Appends before after []
      by h = subst (Appends before after) h.reported h.written

  no_fault : (xs : List (TurnFault × ℕ)) → first xs ≡ None → xs ≡ []
  no_fault [] e = refl
  no_fault (x ∷ xs) e = absurd (none_some (sym e))

  pub both_none : ((s : Scenario) (t : List ℕ) → first (turn_faults s t) ≡ fault_of_turns (turned s t)) → Answers None (loaded text) turns
      → WritesFaults (reported_of (loaded text) path other) (lines_of_both text turns) before after → IsWhole (faults_written text (Some turns)) before after
  both_none law h f = by (loaded text) h f
    where
      by : (r : Result Scenario LoadRefusal) → Answers None r turns → WritesFaults (reported_of r path other) (lines_from r text turns) before after
          → IsWhole (with_scenario r (λ s. none_written (turned s turns))) before after
      by (Err fault) h f = absurd h
      by (Ok s) h f = record {
        text = [];
        given = whole (turned s turns) h;
        written = reported_none other (map turn_fault_line (turn_faults s turns))
            (ap (map turn_fault_line) (no_fault (turn_faults s turns) (law s turns ∙ h))) f;
      }
        where
          whole : (t : Turned) → fault_of_turns t ≡ None → none_written t ≡ Ok []
          whole (Ok ts) e = refl
          whole (Err p) e = absurd (none_some (sym e))

-- WHERE NOT ALL WAS WRITTEN

-- what was written stays so
pub kept_faults : (path : List ℕ) (faults : List (List ℕ)) (before mid after : Option (List ℕ)) → WritesFaults path faults before mid → Keeps mid after
    → WritesFaults path faults before after
kept_faults path faults before mid after h k =
    record { text = h.text; reported = h.reported; written = appends_kept before mid after h.text h.written k }

-- the whole is a prefix
pub whole_prefix : (path : List ℕ) (faults : List (List ℕ)) (before after : Option (List ℕ)) → WritesFaults path faults before after
    → WritesPrefix path faults before after
whole_prefix path faults before after h =
    record { text = h.text; reported = h.reported; written = (length h.text, subst (Appends before after) (sym (take-length h.text)) h.written) }

-- who does not write all of it was refused host memory, or a write failed
pub unreported_ends : (error : ReportError) (r : unreported.CommandFault) (asked : Asked) (before after : Option (List ℕ)) (m n : ℕ) → IsUntold error r
    → ReportsPrefix asked before after → EndsEarly error m n → IsKnown {A = Unit {0}} (Err r) → EndedFaults {A = Unit {0}} (Err r) before after m n asked
unreported_ends error (Refused line) asked before after m n h prefix ends known = absurd (never error h)
  where
    never : (error : ReportError) → IsUntold error (Refused line) → ⊥
    never errors.Memory h = cc
    never errors.Write h = cc
unreported_ends error Memory asked before after m n h prefix ends known = absurd known
unreported_ends error Read asked before after m n h prefix ends known = absurd known
unreported_ends errors.Memory Write asked before after m n h prefix ends known = absurd cc
unreported_ends errors.Write Write asked before after m n h prefix ends known = inl (prefix, ends)
