pub mod Known_links
pub mod Known
pub mod Measured
pub mod internal
