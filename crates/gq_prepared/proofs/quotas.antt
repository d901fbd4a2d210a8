pub mod Node_row_accounts
pub mod Stored_node_quotas
