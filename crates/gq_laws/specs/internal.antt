-- Invariants of worlds that only proofs speak of, and the parts of `Stands`.
pub mod Remaining_instructions
pub mod Remaining
pub mod Uncounted
pub mod Lending
pub mod Verified_holdings
pub mod Section_counts
pub mod Init_quanta
pub mod Carrying
-- How two runs of the same scenario correspond, up to the numbers of their sessions.
pub mod Corresponding
