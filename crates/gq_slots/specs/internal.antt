pub mod Slots_invariant
pub mod Put
