pub mod Present_entry_cells
pub mod Heap_call_table_word
pub mod Pool_call_effects
pub mod Pool_removal
pub mod Pool_caller_facts
pub mod Pools_sharing_heap
pub mod Pool_entry_lists
