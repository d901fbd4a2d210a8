-- A run over turns, settings of inputs and signals does what the run over its turns alone does, but for the inputs.
-- From scenarios in which no statement reads an input, so that a step does the same whatever the inputs are, and no leaf has a signal.
-- So all that holds of any two runs over turns alone holds of any two runs.
pub mod Worlds_without_inputs
pub mod No_signals
pub mod Input_free_step
pub mod Input_free_runs
pub mod Left_out
