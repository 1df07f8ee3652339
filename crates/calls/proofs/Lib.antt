-- Laws that the proofs cite; the public ones serve other crates too.
mod Fitting
pub mod Lent
mod Entries
-- this crate's promises leave one outcome each
pub mod OneAnswer
