use Rattle.std.proofs.Common.{◌≡◌, ◌+◌, ◌≤◌, length, map, filter, drop}
use Rattle.gq_faults.specs.Documents.{is_inner}
use Rattle.gq_faults.specs.Document_nodes.{node_of}
use Rattle.gq_faults.proofs.counts.count_inits.Given as goal

abbrev pub invariant-loop-node : goal.invariant-loop-node
invariant-loop-node l = record {
  counted : l.count + length (filter is_inner (map node_of (drop l.node-index l.nodes))) ≡ length (filter is_inner (map node_of l.nodes));
  few : l.count ≤ l.node-index;
}
