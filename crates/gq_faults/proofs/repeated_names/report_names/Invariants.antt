use Rattle.std.proofs.Common.{ℕ, List, Option, Result, map, drop}
use Rattle.toml.specs.View.{table_view}
use Rattle.gq_scenario.specs.Top_table.{document_text}
use Rattle.gq_faults.specs.Found_lists.{all_found}
use Rattle.gq_faults.specs.Documents.{named, names_faults, names_twice}
use Rattle.gq_faults.specs.Document_nodes.{node_of}
use Rattle.gq_faults.specs.Seen_names.{AreSeen}
use Rattle.gq_faults.specs.Reported_faults.{Reporting}
use Rattle.gq_faults.specs.declared.report_error.ReportError.{ReportError}
use Rattle.gq_faults.proofs.repeated_names.report_names.Given as goal

-- some names were seen, and who reports those that are left reports all
abbrev pub invariant-loop-node : goal.invariant-loop-node
invariant-loop-node g l =
    (names : List (List ℕ)) × AreSeen l.seen names
    × ((after : Option (List ℕ)) (n : ℕ) (r : Result (Unit {0}) ReportError)
    → Reporting l.reporter.path.now (map document_text (names_twice names (all_found named (map node_of (drop l.node-index l.nodes)))))
    (g.W.Write.contents l.out.writer) after l.out.failures n r
    → Reporting l.reporter.path.now (map document_text (names_faults (table_view l.top))) (g.W.Write.contents l.fn.out.writer) after l.fn.out.failures n r)
