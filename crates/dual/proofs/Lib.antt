-- Laws of `Dual`; those that the crates above cite are public.
-- records in flat floats
pub mod Flat
-- this crate's promises leave one answer each
pub mod OneAnswer
