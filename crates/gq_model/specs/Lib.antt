-- the abstract machine
pub mod machine
-- what is known of scenarios before they run, and which are accepted
pub mod rules
-- what is promised of each world and each run of an accepted scenario
pub mod Promises
-- how all of this is written
pub mod texts
-- what only proofs and bodies speak of
pub mod internal
