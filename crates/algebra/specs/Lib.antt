-- What the contracts of the record crates and of the matrices are written with. Definitions only.
pub mod Algebra
pub mod Loop
pub mod Flat
pub mod Outcome
