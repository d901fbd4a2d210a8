-- The nodes of a document, as code has them.
use Rattle.toml.specs.View.{table_view}
use Rattle.gq_faults.specs.Documents.{DocumentNode}
use Rattle.gq_faults.specs.declared.document_nodes.NodeAt.{NodeAt}

abbrev pub node_of : NodeAt → DocumentNode
node_of n = record { deep = n.is_deep; entries = table_view n.table.now }
