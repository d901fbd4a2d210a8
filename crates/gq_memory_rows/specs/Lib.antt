pub mod Markets
pub mod Stays
