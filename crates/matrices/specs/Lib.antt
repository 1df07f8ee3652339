-- What the contracts of the matrix crates are written with: LU, solve, determinant and inverse over any record. Definitions only.
pub mod Matrix
pub mod Lu
pub mod RunAfter
pub mod Solve
pub mod Determinant
pub mod Inverse
pub mod Entries
pub mod Walk
pub mod SameReals
pub mod PreviousContents
pub mod Answers
