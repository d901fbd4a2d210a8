-- Another value of an input keeps all that holds of worlds, since nothing of it looks at inputs but their bounds.
-- `World_with_inputs` has each of these facts for a leaf with other inputs, `Setting_keeps_invariants` what the definition of a setting makes of them,
-- and `Group_input_settings` what a setting is for a group of leaves.
pub mod World_with_inputs
pub mod Setting_keeps_invariants
pub mod Group_input_settings
pub mod Setting_counts_nothing
