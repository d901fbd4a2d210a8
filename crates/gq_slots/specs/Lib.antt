pub mod Slots
pub mod Calls
pub mod internal
pub mod Session_calls
pub mod Slot_addresses
