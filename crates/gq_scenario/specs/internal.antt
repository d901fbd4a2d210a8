pub mod Smaller_children
