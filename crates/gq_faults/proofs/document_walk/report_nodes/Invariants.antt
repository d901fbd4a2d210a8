use Rattle.std.proofs.Common.{ℕ, List, Option, Result, map, drop, option_map}
use Rattle.toml.specs.View.{table_view}
use Rattle.gq_reader.specs.Key_rules.{entries_or_none}
use Rattle.gq_scenario.specs.Document.{keys_of}
use Rattle.gq_scenario.specs.Top_table.{document_text}
use Rattle.gq_scenario.specs.Component_trees.{version_number}
use Rattle.gq_faults.specs.Found_lists.{all_found}
use Rattle.gq_faults.specs.Documents.{node_faults}
use Rattle.gq_faults.specs.Document_nodes.{node_of}
use Rattle.gq_faults.specs.Reported_faults.{Reporting}
use Rattle.gq_faults.specs.declared.report_error.ReportError.{ReportError}
use Rattle.gq_faults.proofs.document_walk.report_nodes.Given as goal

-- who reports those that are left reports all
abbrev pub invariant-loop-node : goal.invariant-loop-node
invariant-loop-node g l = ((after : Option (List ℕ)) (n : ℕ) (r : Result (Unit {0}) ReportError)
    → Reporting l.reporter.path.now (map document_text (all_found (node_faults (version_number l.version) (keys_of (entries_or_none (option_map
    (λ t. table_view t.now) l.interfaces)))) (map node_of (drop l.node-index l.nodes)))) (g.W.Write.contents l.out.writer) after l.out.failures n r
    → Reporting l.reporter.path.now (map document_text (all_found (node_faults (version_number l.version) (keys_of (entries_or_none (option_map
    (λ t. table_view t.now) l.interfaces)))) (map node_of l.nodes))) (g.W.Write.contents l.fn.out.writer) after l.fn.out.failures n r)
