pub mod Statement_trees
pub mod Notes
pub mod Interfaces
pub mod Name_keys
pub mod internal
pub mod Statement_table
