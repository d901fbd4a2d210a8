pub mod Listed_numbers
pub mod Listed_lines
pub mod Table_words
mod Listed_operands
mod Listed_instructions
mod Listed_reads
mod Statement_lines_read_back
mod Listed_sections
mod Listed_programs
mod Listed_printed
mod Listed_leaves
mod Growing_view_texts
mod Printed_statements
mod Printed_sections
-- a leaf by its number in a table
mod Table_leaf_rows
pub mod Table_leaf_servers
-- what is drawn of a scenario
mod Printed_services
mod Printed_view_nodes
mod Printed_boxes
mod Numbered_rows
