pub mod Fit_write_ends
pub mod Running
