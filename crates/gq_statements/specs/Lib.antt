pub mod Slot_statements
pub mod internal
pub mod Among
pub mod Systems
pub mod Linked
pub mod Client_requests
pub mod Serving
