pub mod internal
pub mod Key_rules
