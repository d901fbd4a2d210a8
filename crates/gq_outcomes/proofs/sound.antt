-- Each outcome that is found is that of a run.
pub mod Reaches
pub mod Found
pub mod Own_leaves
-- without a race there is one
pub mod One
