pub mod Decoding
pub mod Bodies
pub mod Coded_sections
