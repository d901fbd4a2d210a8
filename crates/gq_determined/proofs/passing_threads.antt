-- A step of a leaf in two worlds does the same in both and keeps a relation of them, whatever relation the elementary changes keep.
-- From the definition of a step, one pass over all statements, requests and replies.
-- So a relation is shown to be kept by its elementary changes alone.
pub mod Kept_by_steps
pub mod Kept_around
