pub mod machines
pub mod passing_threads
pub mod regions
pub mod thread_positions
pub mod thread_steps
pub mod thread_runs
pub mod without_inputs
pub mod written_lines
pub mod rest_accounts
pub mod from_rest
-- worked examples
mod Counting_server_rows
mod Reaction_rows
