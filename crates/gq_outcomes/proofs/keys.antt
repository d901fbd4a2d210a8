-- keys from which what they are of can be read back
pub mod Numbers
pub mod Parts
pub mod Statements
pub mod Worlds
pub mod Left
pub mod Asked
pub mod Section_asks
pub mod Served_asks
