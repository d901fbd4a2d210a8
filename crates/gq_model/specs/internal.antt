-- What only proofs and bodies speak of.
pub mod Stored
