pub mod Line_turn_lists
pub mod Piecewise_turn_lines
pub mod Line_number_counts
pub mod Setting_lines
pub mod Signal_lines
pub mod Name_index_leaves
pub mod First_turn_line
pub mod Name_prefix_test
