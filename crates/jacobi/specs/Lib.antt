-- What the contracts of Jacobi are written with: the run over any record, and the entry over any record in flat floats. Definitions only.
pub mod Sweeps
pub mod Sort
pub mod Entry
pub mod Scratch
pub mod Answer
pub mod SameReals
pub mod PreviousContents
