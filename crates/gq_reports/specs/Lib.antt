pub mod Whole
pub mod Command_outcomes
