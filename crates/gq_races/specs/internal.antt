pub mod Conflicts
pub mod Openers
pub mod Owners
pub mod Kind_lines
