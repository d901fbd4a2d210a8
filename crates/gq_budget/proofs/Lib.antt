pub mod Counted_section_requests
pub mod Saturated_product_sums
pub mod Zipped_lists
pub mod Section_request_counts
pub mod Saturated_run_counts
pub mod Joined_step_budgets
pub mod Stable_last_round
pub mod Ordered_stable_round
mod Route_use_relation
