pub mod Causes
pub mod Leaf_routes
pub mod Leaf_section_counts
pub mod Step_budgets
pub mod Times
pub mod internal
