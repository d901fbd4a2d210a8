pub mod CommandLine
pub mod Status
pub mod internal
pub mod Input
pub mod Stored_run
