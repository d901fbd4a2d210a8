pub mod Frame_lists
pub mod List_trees
pub mod Link_table
pub mod Runs
pub mod Spaces_fields
