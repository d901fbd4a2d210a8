use Rattle.std.proofs.Common.{map, option_map}
use Rattle.toml.specs.View.{table_view}
use Rattle.gq_reader.specs.Key_rules.{entries_or_none}
use Rattle.gq_scenario.specs.Document.{keys_of}
use Rattle.gq_scenario.specs.Top_table.{document_text}
use Rattle.gq_scenario.specs.Component_trees.{version_number}
use Rattle.gq_faults.specs.Documents.{node_faults}
use Rattle.gq_faults.specs.Document_nodes.{node_of}
use Rattle.gq_faults.proofs.Reported_fault_prefixes.{memory_ends}
use Rattle.gq_faults.proofs.document_walk.report_node.Goals as goal

pub returns-in_err-way : goal.returns-in_err-way
returns-in_err-way g c =
    let services = keys_of (entries_or_none (option_map (λ t. table_view t.now) c.args.interfaces)) in
    memory_ends c.args.reporter.now.path.now (map document_text (node_faults (version_number c.args.version) services (node_of c.args.node))) _ _
    c.from_residual.result c.from_residual.ensures.1
