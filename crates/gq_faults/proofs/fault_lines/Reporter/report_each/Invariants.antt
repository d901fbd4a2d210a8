use Rattle.std.proofs.Common.{ℕ, List, Option, Result, drop}
use Rattle.gq_faults.specs.Reported_faults.{Reporting}
use Rattle.gq_faults.specs.Found_lines.{lines_found}
use Rattle.gq_faults.specs.declared.report_error.ReportError.{ReportError}
use Rattle.gq_faults.proofs.fault_lines.Reporter.report_each.Given as goal

-- who reports those that are left reports all
abbrev pub invariant-loop-fault : goal.invariant-loop-fault
invariant-loop-fault g l = (after : Option (List ℕ)) (n : ℕ) (r : Result (Unit {0}) ReportError)
    → Reporting l.self.path.now (lines_found (drop l.fault-index l.found)) (g.W.Write.contents l.out.writer) after l.out.failures n r
    → Reporting l.self.path.now (lines_found l.found) (g.W.Write.contents l.fn.out.writer) after l.fn.out.failures n r
