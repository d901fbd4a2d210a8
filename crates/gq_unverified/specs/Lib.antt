pub mod Tested
pub mod Tested_run_ends
pub mod internal
