-- Laws of every record type.
-- comparisons are those of real parts
pub mod Comparisons
-- this crate's promises leave one answer each
pub mod OneAnswer
