pub mod step_shapes
pub mod session_links
pub mod quota_payment
pub mod verified_programs
pub mod statement_rules
pub mod request_rules
pub mod reply_rules
pub mod remaining_work
pub mod typed_worlds
pub mod held_resources
pub mod step_counts
mod rows
pub mod input_settings
pub mod upheld_worlds
-- what stays of a group in a world that is changed outside
pub mod Outside_changes_untouched
-- the account of a leaf inside
pub mod Group_account_sums
-- steps of a leaf outside
pub mod Outside_step_untouched
-- turns
pub mod Separation_turning
-- worked examples
mod Separation_rows
-- sessions that correspond
pub mod Session_renaming
-- two steps at once
pub mod Paired_step_outcomes
-- worlds that are the same but for the numbers of sessions
pub mod Renamed_world_equality
-- sums and accounts
pub mod Renamed_session_sums
-- the oldest requests
pub mod Group_oldest_requests
-- what stays the group's
pub mod Group_slots_sessions
-- steps of a leaf inside
pub mod Inside_statement_both
pub mod Inside_section_steps
-- where quotas are counted
pub mod Inside_step_both
-- runs
pub mod Group_run_alone
-- worked examples
mod Apart_rows
