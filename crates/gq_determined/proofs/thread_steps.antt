-- A turn for another thread is not seen by a thread, and after a turn for it in two worlds it has the same in both, and shows the same.
-- From what elementary changes keep, and where threads stand.
-- So worlds are a machine whose steps are each taken for a thread.
pub mod Signal_flags
pub mod Input_changes
pub mod Thread_reflexivity
pub mod Own_steps
pub mod Tracked_step_world
pub mod Thread_step_frame
pub mod Stateless_thread_agreement
pub mod Paired_thread_step
