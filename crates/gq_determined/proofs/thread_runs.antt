-- In two runs of a sound scenario each thread whose `main` has ended has the same, and showed the same.
-- From turns of threads, what is left of each leaf to do, where sessions are opened, and that no step of such a scenario is wrong.
-- So it is for all threads of two runs that come to rest.
pub mod Thread_run_determinism
pub mod Remaining_section_statements
pub mod Suitable_session_slots
-- what does not depend on what is counted
pub mod Uncounted_uses
pub mod Raceless_first_statements
pub mod Opened_session_owner
-- what each leaf showed
pub mod Leaf_run_prefixes
pub mod Sound_runs
pub mod At_rest
