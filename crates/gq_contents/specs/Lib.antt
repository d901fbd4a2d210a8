pub mod Contents
pub mod Contents_invariant
pub mod Paid
pub mod Touches
