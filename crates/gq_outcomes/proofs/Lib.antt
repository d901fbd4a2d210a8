-- worked rows
pub mod Rows
-- what code makes of statements
pub mod Changes
-- worlds that are the same
pub mod same
-- outcomes are those of runs
pub mod sound
-- machines in which orders decide
pub mod machines
-- choices
pub mod Choosing_facts
pub mod Choice_lists
-- turns of a walk
pub mod Walk_facts
-- a search without recursion
pub mod Search_stack
-- a search of the code and one of the definition
pub mod Search_facts
pub mod Search_worlds
-- how the commands end
pub mod Outcome_endings
-- worlds that are settled
pub mod Settling
-- lists of turns are read back, and lead to their outcomes
pub mod Turns_read_back
pub mod Leaf_names
pub mod Outcome_lists
-- texts of outcomes
pub mod Text_lines
-- turns in rows
pub mod Turn_rows
-- racy leaves
pub mod Racy_lists
pub mod Racy_leaves
-- keys of worlds
pub mod keys
pub mod Key_lists
pub mod Kept_parts
pub mod Kept_readers
pub mod Sections_left
-- each run to rest has an outcome that is found
pub mod complete
