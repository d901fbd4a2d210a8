pub mod World_invariant
pub mod Act_transitions
