-- What leaves and sessions hold and have lent is within what was verified, so each step is paid for.
-- From typed worlds in a system where nothing is counted; then the test of the quotas never fails in the real one (Uncounted_resource_step).
-- A leaf's own slots by the points of `main`, a session's by the need of its level.
pub mod Leaf_peaks_step
pub mod Own_slot_bounds
pub mod Less_held_sums
pub mod Leaf_holdings_step
pub mod By_leaves
pub mod Session_bank_cost
pub mod Session_cost_parts
pub mod Session_costs_step
pub mod Sufficient_request_gifts
pub mod Asking_costs_held
pub mod By_sessions
pub mod Held_after_step
pub mod Held_within_paid
pub mod Accepted_run_faultless
pub mod Lent_by_named_sessions
pub mod Uncounted_resource_step
