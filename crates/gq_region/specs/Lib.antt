pub mod Region_places
pub mod internal
pub mod Region_addresses
