pub mod Judging
pub mod Flowing
pub mod List_maxima
pub mod internal
