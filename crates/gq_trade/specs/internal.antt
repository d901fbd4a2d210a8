pub mod Store_rest
pub mod Trades_fields
