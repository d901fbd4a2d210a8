pub mod Session_rounds
