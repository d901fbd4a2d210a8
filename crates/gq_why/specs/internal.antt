pub mod Visitor_lines
pub mod Step_parts
