pub mod Codes
pub mod Decoded
pub mod Laws
pub mod internal
