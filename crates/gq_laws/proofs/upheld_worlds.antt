-- What each world has that a scenario comes to, gathered from the other folders.
-- From invariants that the start has and each step keeps.
-- It is what the contracts of this crate cite.
pub mod Reached_world_induction
pub mod Any_reached_world
pub mod Standing_world_invariant
pub mod Upheld_runs
pub mod Upheld_accounts
