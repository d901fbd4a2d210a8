pub mod Turn_items
pub mod TurnLines
pub mod TurnReading
pub mod internal
