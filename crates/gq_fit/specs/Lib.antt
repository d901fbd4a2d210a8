pub mod Fitted
pub mod internal
pub mod Value_edits
pub mod Fit_words
pub mod Places
pub mod Refitted
pub mod Reasons
