pub mod Document_parts
pub mod Faultless_tables
pub mod Walk
