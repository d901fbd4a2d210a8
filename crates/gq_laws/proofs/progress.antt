-- invariants of worlds: sessions are of services that their clients open, and phases suit what leaves provide
pub mod Opened_services_invariant
pub mod Leaf_phase_invariant
pub mod Lasting_world_invariant
-- no leaf is stuck where none can run
pub mod No_blocked_deadlock
pub mod No_pending_deadlock
pub mod No_deadlock
-- steps are added up
pub mod Signals_left
pub mod Work_ends
pub mod Run_turn_composition
pub mod Reactions_bounded
-- worked examples
mod Progress_rows
