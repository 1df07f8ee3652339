-- Laws of `Dual3`; those that the crates above cite are public.
-- records in flat floats
pub mod Flat
-- this crate's promises leave one answer each
mod OneAnswer
