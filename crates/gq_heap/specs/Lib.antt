pub mod Classes
pub mod List_occurrences
pub mod Bins
pub mod Heap
pub mod internal
