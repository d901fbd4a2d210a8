pub mod Operand_words
pub mod Assembly_state
pub mod Section_order
pub mod Source_lines
pub mod Words_operands
pub mod Quotes
