pub mod Leaf_node_rows
pub mod Following_nodes
pub mod Start_after_nodes
pub mod Ended_leaf_nodes
