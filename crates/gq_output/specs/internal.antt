pub mod Gathered_lines
