-- How many numbers a case of each entry begins with. Definitions only.
pub mod Entries
