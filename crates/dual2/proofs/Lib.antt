-- Laws of `Dual2`; those that the crates above cite are public.
-- records in flat floats
pub mod Flat
-- this crate's promises leave one answer each, and the value in the documentation of dual2.rs
mod OneAnswer
mod Values
