-- In each world of an accepted scenario each leaf stands at a state of the rules from which what is left leads to the section's end.
-- From the laws of statements, requests and replies, with what is promised of each session.
-- So no step is wrong but for want of quota.
pub mod Promised_stance_transfer
pub mod Typed_world_promises
pub mod Inside_step_typed
pub mod Reply_typed
pub mod Taken_request_typed
pub mod Accepted_request_typed
pub mod Start_typed
pub mod Main_end_typed
pub mod Taken_signal_typed
pub mod Typed_world_step
pub mod Accepted_run_typed
pub mod Asked_worlds
pub mod Asked_services
pub mod Asked_rule_changes
pub mod Asked_stands
pub mod Asked_rests
pub mod Asked_typed
pub mod Oldest_requests
pub mod Bounded_typed_step
