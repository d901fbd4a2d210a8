pub mod Parser_answer_command
pub mod Parser_value_rows
pub mod Stored_laws
pub mod Rows_stored
mod Number_word_reading
