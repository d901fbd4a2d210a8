pub mod Load
pub mod Over_limits
pub mod Load_faults
pub mod Named
pub mod Unverified
pub mod Unsized_judgement
pub mod internal
