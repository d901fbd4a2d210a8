pub mod Line_start_table
