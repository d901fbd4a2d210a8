pub mod Resolve_faults
pub mod Reaching
pub mod internal
pub mod Routing
pub mod Served
pub mod NodeTables
