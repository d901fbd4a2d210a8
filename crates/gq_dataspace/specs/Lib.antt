pub mod Dataspaces
pub mod internal
