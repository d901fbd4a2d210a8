pub mod Tested_turn_runs
pub mod Tested_step_counts
pub mod Bounded_turn_count
pub mod Tested_run_text
pub mod Tested_rest_runs
