pub mod Short_lines
pub mod Printed_sizes
pub mod Sized_parts
pub mod Just_asked
