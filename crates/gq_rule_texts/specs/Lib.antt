pub mod Rule_tables
