pub mod Afters
pub mod Use_order
pub mod Search_keys
pub mod Kept_tables
