-- In any two runs of a machine whose steps are each taken for a thread, what a thread shows in one is a prefix of what it shows in the other.
-- From what a single step does: for another thread it is not seen, and for the same thread in both runs it does the same.
-- So nothing has to be said of the order of steps of different threads.
pub mod By_threads
