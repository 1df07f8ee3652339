-- Laws of `HyperHyperDual`; those that the crates above cite are public.
-- records in flat floats
pub mod Flat
-- this crate's promises leave one answer each, and values of the source's examples
mod OneAnswer
mod Values
