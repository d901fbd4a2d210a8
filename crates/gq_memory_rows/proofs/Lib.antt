pub mod Leaves_in_turn
pub mod Market_invariant
pub mod Computable_plan_tests
