pub mod Asm_lines
pub mod Statement_reads
pub mod Open_block_list
pub mod Sections_taken_out
pub mod Finished_text_program
pub mod Word_prefix_statements
pub mod Pieces_at_start
pub mod Usual_lines
