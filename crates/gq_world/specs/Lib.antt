pub mod World_between_turns
pub mod Headline
pub mod Account_lines
pub mod internal
