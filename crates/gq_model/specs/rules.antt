-- What is known of a program before it runs: the kinds of slots and the rules for statements and sections, and its budgets (`verdict`).
-- From these: who uses whom how often, what a scenario must be besides its programs, and which scenarios are accepted (`IsAccepted`).
pub mod Kinds
pub mod Rules
pub mod Flow
pub mod Budgets
pub mod Verdict
pub mod Use
pub mod Resolve
pub mod Accept
