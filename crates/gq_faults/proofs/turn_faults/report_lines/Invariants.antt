use Rattle.std.proofs.Common.{◌≡◌, ℕ, ◌+◌, ◌^◌, ◌≤◌, List, Option, Some, Result, map, option_map, unwrap_or}
use Rattle.gq_model.specs.machine.Lists.{or_first}
use Rattle.gq_model.specs.texts.Letters.{lines}
use Rattle.gq_model.specs.machine.Rest.{greatest_turns}
use Rattle.gq_model.specs.declared.fault.TurnFault.{TurnFault}
use Rattle.gq_scenario.specs.Text_pieces.{length_left}
use Rattle.gq_faults.specs.Found_lists.{first}
use Rattle.gq_faults.specs.Reported_faults.{Reporting}
use Rattle.gq_faults.specs.Turn_faults.{faults_left, line_faults, turn_fault_line}
use Rattle.gq_faults.specs.declared.report_error.ReportError.{ReportError}
use Rattle.gq_faults.proofs.turn_faults.report_lines.Given as goal

-- who reports the lines that are left reports all; and the first of all is the one that was found, or else the first of these
abbrev pub invariant-loop-reading : goal.invariant-loop-reading
invariant-loop-reading g l =
    let all = line_faults l.table 1 (Some 0) (lines l.file.text.now) in
    let left = faults_left l.table l.reading.line l.reading.total (option_map (λ t. t.now) l.reading.left) in
    record {
      few : unwrap_or l.reading.total 0 ≤ greatest_turns;
      short : l.reading.line + length_left (option_map (λ t. t.now) l.reading.left) ≤ 2 ^ 24 + 1;
      first : or_first l.first (first left) ≡ first all;
      reported : (after : Option (List ℕ)) (n : ℕ) (r : Result (Option (TurnFault × ℕ)) ReportError)
          → Reporting l.file.path.now (map turn_fault_line left) (g.W.Write.contents l.out.writer) after l.out.failures n r
          → Reporting l.file.path.now (map turn_fault_line all) (g.W.Write.contents l.fn.out.writer) after l.fn.out.failures n r;
    }

abbrev pub decreases-loop-reading : goal.decreases-loop-reading
decreases-loop-reading g l = length_left (option_map (λ t. t.now) l.reading.left)
