-- what a step does to operands, current requests and clients
pub mod Operand_holders_write
pub mod Step_room_frame
-- who waits, and keeps its room
pub mod Waiting_means_blocked
pub mod Unblocked_step_room
pub mod Reply_keeps_room
-- each step
pub mod Steps_keep_room
pub mod Reply_room_invariant
