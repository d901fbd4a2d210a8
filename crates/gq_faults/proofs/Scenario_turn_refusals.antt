-- Why a scenario and turns are refused.
use Rattle.std.proofs.Common.{◌≡◌, ℕ, List, [], map, Option, Some, None, Result, Ok, Err, ap, refl, sym, subst, ◌∙◌}
use Rattle.gq_model.specs.machine.Scenario.{Scenario}
use Rattle.gq_model.specs.declared.fault.TurnFault.{TurnFault}
use Rattle.gq_load.specs.Load.{LoadRefusal, fault_text, loaded}
use Rattle.gq_faults.specs.First_stage_faults.{fault_lines}
use Rattle.gq_faults.specs.Found_lists.{first}
use Rattle.gq_output.specs.Writer_failures.{failures_of, written_to}
use Rattle.gq_output.specs.declared.counted.Counted.{Counted}
use Rattle.gq_faults.specs.Reported_faults.{Reporting, Reports, WritesPrefix}
use Rattle.gq_faults.specs.Turn_faults.{Answers, lines_from, lines_of_both, reported_of, turn_fault_line, turn_faults}
use Rattle.gq_faults.specs.declared.report_error.ReportError.{ReportError}
use Rattle.gq_faults.specs.declared.report_error.ReportError.TheVariants.{Memory}
use Rattle.std.specs.Prelude.{IfNone}
use Rattle.gq_faults.specs.declared.turn_faults.Refused.TheVariants as refused
use Rattle.gq_faults.proofs.First_of_texts.{none_of_accepted}
use Rattle.gq_faults.proofs.Reported_fault_prefixes.{prefix_of_none, reports_memory}
use Rattle.gq_faults.proofs.Turn_lines.{first_of_turns}

module _ (r : Result Scenario LoadRefusal) (s : Scenario) (turns : List ℕ) (accepted : r ≡ Ok s) where
  pub answers_none : None ≡ first (turn_faults s turns) → Answers None r turns
  answers_none h = subst (λ o. Answers None o turns) (sym accepted) (sym (h ∙ first_of_turns s turns))

  pub answers_some : (fault : TurnFault) (line : ℕ) → Some (fault, line) ≡ first (turn_faults s turns)
      → Answers (Some (refused.Turns fault line)) r turns
  answers_some fault line h =
      subst (λ o. Answers (Some (refused.Turns fault line)) o turns) (sym accepted) (sym (h ∙ first_of_turns s turns))

-- of one that is accepted nothing was reported, and then the host refused memory
pub both_memory : {W A F : Type 0} (P : Type 0) (contents : W → Option (List ℕ)) (path : List ℕ) (lines : List (List ℕ)) (old new : Counted W)
    (fault : Option F) → fault ≡ None → IfNone fault (P × (new ≡ old)) → Reports {W = W} {A = A} contents path lines old new (Err Memory)
both_memory {W = W} {A = A} P contents path lines old new None e h =
    subst (λ (o : Counted W). Reports {W = W} {A = A} contents path lines old o (Err Memory)) (sym h.1)
    (reports_memory path lines (written_to contents old) (failures_of old))
both_memory P contents path lines old new (Some f) e h = absurd cc

-- who ends early in reporting of a scenario ends early in reporting of both: of one that is accepted nothing was reported
pub both_early : {A B : Type 0} (path other text turns : List ℕ) (before after : Option (List ℕ)) (m n : ℕ) (e : ReportError)
    → Reporting {A = A} path (fault_lines text) before after m n (Err e)
    → Reporting {A = B} (reported_of (loaded text) path other) (lines_of_both text turns) before after m n (Err e)
both_early {B = B} path other text turns before after m n e h = by (loaded text) refl
  where
    by : (r : Result Scenario LoadRefusal) → loaded text ≡ r → Reporting {A = B} (reported_of r path other) (lines_from r text turns) before after m n (Err e)
    by (Err fault) is = record { reported = tt; counted = tt; cut = h.cut; ended = h.ended }
    by (Ok s) is =
        let none : fault_lines text ≡ [] = ap (map fault_text) (none_of_accepted text s is) in
        record {
          reported = tt;
          counted = tt;
          cut = prefix_of_none path other (map turn_fault_line (turn_faults s turns)) before after
              (subst (λ (l : List (List ℕ)). WritesPrefix path l before after) none h.cut);
          ended = h.ended;
        }
