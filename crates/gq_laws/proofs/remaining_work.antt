-- What is left of a section to do: each move of it is one of the steps, states and requests that were left.
-- From the moves of a section by the rules.
-- So what is left never grows, and its statements are those of the program.
pub mod Remaining_program_statements
pub mod Program_statements_valid
pub mod Section_move_cases
pub mod Move_step_count
pub mod Move_keeps_points
pub mod Move_requests_left
