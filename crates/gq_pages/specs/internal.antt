pub mod Region_layout
pub mod Ownership
pub mod Pages
pub mod Region
