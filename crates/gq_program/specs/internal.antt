pub mod Listed_statements
pub mod Smaller_bodies
pub mod Statement_counts
