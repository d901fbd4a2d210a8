-- small facts that other crates cite, too
pub mod Small_facts
pub mod Byte_number_spelling
pub mod Ascii_names
pub mod Holding_results
pub mod Shape_spelling
pub mod Component_laws
pub mod Rules_laws
pub mod Operand_step_limits
pub mod Section_laws
pub mod Sums_laws
-- code and operands: what is spelled is read back
pub mod Code_laws
pub mod Operand_laws
pub mod Instruction_laws
pub mod Decoded_operands
pub mod Decoded_bodies
pub mod Decoded_programs
-- assembled text is a program
pub mod Assembled_instructions
pub mod Assembled_sections
pub mod Assembled_blocks
pub mod Assembled_programs
-- worked examples
pub mod Statement_word_rows
pub mod Sample_scenarios
mod rows
