pub mod Early_command_ends
pub mod Executed
pub mod internal
