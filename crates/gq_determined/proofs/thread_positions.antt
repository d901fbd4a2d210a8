-- Each thread is at one place: one leaf works for it and does not wait, or one request of it waits. A leaf that is not shared becomes the thread's that asks.
-- From how sessions, slots, requests and current requests agree in each world, and where sessions with leaves that are not shared stand.
-- So where a thread has the same in two worlds, the leaf of its next step is the same, and the same becomes its own at it.
-- owners
pub mod Unshared_leaf_owner
pub mod Owners_meant
pub mod Single_thread_position
pub mod Turn_thread_position
-- the first request of a leaf that is not shared, in one world and in two
pub mod First_request_given
pub mod Thread_step_ready
