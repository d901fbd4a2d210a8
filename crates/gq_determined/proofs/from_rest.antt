-- Turns from a world at rest on, once inputs were set and signals submitted there. Each leaf has exited or serves, no request waits, and each session stands
-- below the own slots of one leaf. So each leaf is its own thread's again, as at the start, and takes its signals before any request.
pub mod Idle_worlds
pub mod Own_opens
pub mod Opened_places
pub mod Session_leaves
pub mod Exited_inputs
pub mod Peaks_reached
pub mod First_from_rest
pub mod Runs_going_on
pub mod Reactions_same
