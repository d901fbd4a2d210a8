pub mod Leaf_invariant
pub mod Placed
pub mod Signal_lists
