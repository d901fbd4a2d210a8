pub mod Accepted
pub mod Saturated_budgets
pub mod Judged_programs
pub mod Counted_leaves
pub mod Surveys
pub mod Small_budgets
