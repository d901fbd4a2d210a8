pub mod Listing
pub mod Numbered
pub mod Assembled_listing
pub mod Tree
pub mod Views_written
pub mod internal
