pub mod Product_sums
pub mod Counted
pub mod Run_rounds
pub mod Signal_steps
pub mod Asking_order
pub mod Route_leads
