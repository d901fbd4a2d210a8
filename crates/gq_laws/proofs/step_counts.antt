-- No leaf takes more steps than its budget.
-- From how often each section has been asked for so far, and the steps and requests that are left of the current ones.
-- Each step is one of those left; each request pays for its section.
pub mod Section_request_sums
pub mod Counted_world_step
pub mod Inside_step_counted
pub mod Section_end_counted
pub mod Section_begun_counted
pub mod Request_taken_counted
pub mod Signal_taken_counted
pub mod Service_request_count
pub mod Asking_counted
pub mod Start_counted
pub mod Rest_counted
pub mod Counted_worlds
pub mod Cause_sums
pub mod Steps_within_budget
