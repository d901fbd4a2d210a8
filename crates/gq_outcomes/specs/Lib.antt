-- which servers are racy, and where leaves stand at a choice
pub mod Choices
-- when two worlds are one but for the numbers of their sessions
pub mod Same
-- how outcomes are found
pub mod Outcomes
-- their text
pub mod Text
pub mod Written
-- what is promised of them
pub mod Laws
-- what only code and proofs speak of
pub mod internal
