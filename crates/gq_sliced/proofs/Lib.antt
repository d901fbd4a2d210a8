pub mod Slice_byte_writes
pub mod Slice_caller_facts
pub mod Slice_byte_lists
