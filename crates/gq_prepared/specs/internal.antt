pub mod Open_targets
pub mod Upgraded
pub mod Firsts
