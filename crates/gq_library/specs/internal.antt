pub mod Owned_world
pub mod Turns_left
