pub mod Sequential_leaf_loading
pub mod First_leaves
pub mod Five_part_texts
pub mod Step_counted_leaves
pub mod Saturated_step_budgets
pub mod First_refusal_reason
mod Over_limit_lists
pub mod Signal_line_steps
pub mod Unsized_faults
pub mod Sound_programs
pub mod Read_service_resources
pub mod Sound_texts
-- what is read, accepted or not
pub mod Read_interfaces
pub mod Read_nodes
pub mod Read_texts
