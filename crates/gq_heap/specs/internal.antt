pub mod Chain
pub mod Bin
