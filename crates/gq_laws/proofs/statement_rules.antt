-- A statement on operands, locals or memory does what the verifier's rules state, and leaves other leaves and sessions alone.
-- From where the leaf stands: its slots, operands and locals are of the kinds and within the bounds of the state of the rules.
-- Only want of quota stops it.
pub mod Ruled_step_shapes
pub mod Statement_number_bounds
pub mod Ruled_operand_statement
pub mod Ruled_slot_kinds
pub mod Ruled_memory_there
pub mod Ruled_statement_steps
pub mod Statement_leaves_others
pub mod Unblocked_names_nothing
pub mod Statement_keeps_promises
pub mod Stance_frame
pub mod Control_statement_rules
pub mod Branch_loop_flow
