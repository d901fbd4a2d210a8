-- After all work has come to rest the accounts of all nodes are the same.
-- From regions that are the same for each thread, whose names of sessions are merged into one; phases at rest; steps, which are added up by threads; and peaks,
-- which are raised in steps of the thread alone that a leaf is of.
-- So what a run to rest leaves to whom does not depend on the turns.
pub mod Merged_thread_worlds
pub mod Thread_step_counts
pub mod Node_accounts_equal
pub mod Step_budgets_same
-- no peak is below what own slots have in use
pub mod Own_peak_bounds
pub mod Own_peaks_kept
-- how a step raises peaks
pub mod Peaks_steps
pub mod Session_places
pub mod Peaks_same
-- accounts
pub mod Rest_account_law
