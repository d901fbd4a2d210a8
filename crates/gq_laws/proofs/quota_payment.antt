-- Each leaf is paid for, a close gives the whole donation back, and the quotas of all nodes sum to what the root was given.
-- From worlds that are linked, names that differ, quanta that fit and leaves that start after fitting siblings.
-- It holds of every scenario that is resolved, accepted or not.
pub mod Written_world_prices
pub mod Routed_server_provides
pub mod Paid_worlds
pub mod Close_returns_donation
pub mod Closed_sessions
pub mod Leaf_component_positions
pub mod Init_quanta_bounded
pub mod Quanta_kept
pub mod Quota_total
