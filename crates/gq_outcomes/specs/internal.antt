-- What only code and proofs speak of.
pub mod Racy
pub mod Keys
pub mod Kept_keys
pub mod Key_parts
pub mod Left
pub mod Asks
pub mod Asked_servers
pub mod Open_branches
pub mod Turn_rows
pub mod Found_outcomes
pub mod Choosing
pub mod Walks
pub mod Search_states
