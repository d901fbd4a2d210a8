pub mod internal
pub mod Writer_failures
pub mod LeafLines
pub mod Account_values
pub mod Writes
