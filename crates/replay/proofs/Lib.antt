-- Laws that the proofs cite.
pub mod Falls
pub mod Pairs
