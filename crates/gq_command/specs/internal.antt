pub mod Command_entries
pub mod Meant
