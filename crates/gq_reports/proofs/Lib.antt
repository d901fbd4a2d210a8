pub mod Hexadecimal_digits
pub mod Printed_budget_lines
pub mod Command_text_endings
mod Whole_rows
