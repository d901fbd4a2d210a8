pub mod Section_statement_counts
pub mod Opened_services
-- a leaf by its number in a table
pub mod Table_leaves
