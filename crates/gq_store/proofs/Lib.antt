pub mod Disjoint_store_users
pub mod Word_byte_spelling
pub mod Stored_byte_lists
pub mod Refused_call_state
