pub mod Byte_tests
pub mod Prices
pub mod Quantities
