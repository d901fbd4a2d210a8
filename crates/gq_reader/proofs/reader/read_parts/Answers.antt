use Rattle.toml.specs.View.{table_view}
use Rattle.gq_reader.proofs.Faultless_document_parts.{walked}
use Rattle.gq_reader.proofs.reader.read_parts.Goals as goal

pub read_quantum-total-requires : goal.read_quantum-total-requires
read_quantum-total-requires c = (walked (table_view c.args.top) c.requires.walked).sound.total

pub read_routes_at-requires : goal.read_routes_at-requires
read_routes_at-requires c = (walked (table_view c.args.top) c.requires.walked).routes

pub read_interfaces-requires-clause-few : goal.read_interfaces-requires-clause-few
read_interfaces-requires-clause-few c = rw c.table_at.ensures c.requires.few

pub read_interfaces-requires-clause-names : goal.read_interfaces-requires-clause-names
read_interfaces-requires-clause-names c = rw c.table_at.ensures (walked (table_view c.args.top) c.requires.walked).sound.named

pub read_interfaces-requires-clause-sound : goal.read_interfaces-requires-clause-sound
read_interfaces-requires-clause-sound c = rw (c.table_at.ensures, c.version_of-version.ensures)
    (walked (table_view c.args.top) c.requires.walked).interfaces

pub read_nodes-requires : goal.read_nodes-requires
read_nodes-requires c = rw c.take_list.ensures (walked (table_view c.args.top) c.requires.walked).nodes
