pub mod Stored_world_links
pub mod Standing_sessions
pub mod Waiting_requests
pub mod Ended_leaves
pub mod Sums_below
pub mod Session_count
