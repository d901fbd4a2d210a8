pub mod Prepared
pub mod internal
pub mod Account_nodes
pub mod Scenario_plan
pub mod Leaf_holdings
