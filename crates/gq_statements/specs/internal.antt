pub mod Found
pub mod Made_memory
pub mod Named_slots
pub mod Beginning
pub mod Content_tests
