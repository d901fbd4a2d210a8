-- What a step does to the world as a whole: as many leaves, slots and peaks stand after it, and it is counted.
-- From the shape of the step's definition alone; a predicate on outcomes is passed from each part of a step to the step (Step_end_shapes).
-- Used by every other folder.
pub mod Step_end_shapes
pub mod Step_end_worlds
pub mod Step_change_shapes
pub mod Signal_lists
pub mod Step_counting
pub mod Whole_worlds
pub mod Number_sums
