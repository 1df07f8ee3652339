-- What the contracts are written with. Definitions only.
pub mod Runs
