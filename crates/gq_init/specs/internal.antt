pub mod Ahead
pub mod Piecewise_lines
