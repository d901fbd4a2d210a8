pub mod Why
pub mod First_maxima
pub mod Adds
pub mod Why_written
pub mod internal
