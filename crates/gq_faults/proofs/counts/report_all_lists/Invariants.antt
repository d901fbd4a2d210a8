use Rattle.std.proofs.Common.{ℕ, List, Option, Result, map, drop}
use Rattle.gq_scenario.specs.Top_table.{document_text}
use Rattle.gq_faults.specs.Found_lists.{all_found}
use Rattle.gq_faults.specs.Documents.{long_lists}
use Rattle.gq_faults.specs.Document_nodes.{node_of}
use Rattle.gq_faults.specs.Reported_faults.{Reporting}
use Rattle.gq_faults.specs.declared.report_error.ReportError.{ReportError}
use Rattle.gq_faults.proofs.counts.report_all_lists.Given as goal

-- who reports those that are left reports all
abbrev pub invariant-loop-node : goal.invariant-loop-node
invariant-loop-node g l = (after : Option (List ℕ)) (n : ℕ) (r : Result (Unit {0}) ReportError)
    → Reporting l.reporter.path.now (map document_text (all_found long_lists (map node_of (drop l.node-index l.nodes))))
    (g.W.Write.contents l.out.writer) after l.out.failures n r
    → Reporting l.reporter.path.now (map document_text (all_found long_lists (map node_of l.nodes)))
    (g.W.Write.contents l.fn.out.writer) after l.fn.out.failures n r
