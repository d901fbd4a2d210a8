pub mod Accounts_fields
pub mod Kept_rest
