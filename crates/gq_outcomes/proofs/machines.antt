-- Machines whose steps are each taken for a thread.
pub mod Two_starts
