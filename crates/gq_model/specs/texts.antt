-- How all of this is written: names and lines, turns (`turned`), the bytes of a program (`code_of`), program text (`assembled`), refusals.
-- Each text is read as at most one thing; what is read of a program's code is spelled by it again.
pub mod Fault_texts
pub mod Letters
pub mod Turns
pub mod Operands
pub mod Code
pub mod Spelling
pub mod Text
pub mod Decode
pub mod Sources
