-- which leaves are shared, and where sessions can report of one another there
pub mod Races
-- the text of these places
pub mod Race_text
pub mod Races_written
-- what only code and proofs speak of
pub mod internal
