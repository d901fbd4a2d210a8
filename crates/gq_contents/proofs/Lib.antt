pub mod Content_lists
pub mod Unchanged_content_meaning
pub mod Other_contents_kept
pub mod Content_call_effects
pub mod PoolCalls
pub mod Content_call_prices
pub mod Content_cell_counts
pub mod Content_heap_peaks
pub mod Slot_pool_entries
pub mod Content_caller_facts
mod Extent_bytes
