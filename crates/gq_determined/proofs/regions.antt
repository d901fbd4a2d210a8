-- Two worlds in which a thread has the same, and all else is as it was: elementary changes for the thread keep this.
-- From the regions of two threads, what leaves are at, and what is left as it is elsewhere.
-- So a step for a thread does the same in both worlds, and touches nothing of another thread.
pub mod Region_changes
pub mod At_same
pub mod Outside_region_kept
pub mod Related_step_worlds
pub mod Related_around
pub mod Renamed_regions
