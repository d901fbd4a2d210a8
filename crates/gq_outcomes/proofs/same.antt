-- The tests of sameness: values that pass them are equal, and each value passes against itself.
pub mod Tests
pub mod Worlds
pub mod Itself
