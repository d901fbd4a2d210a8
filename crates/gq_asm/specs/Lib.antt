pub mod Assembly_faults
pub mod internal
pub mod Pieces
pub mod Word_prefixes
pub mod Usual
