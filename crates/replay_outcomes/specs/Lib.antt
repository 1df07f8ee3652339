-- What comes of a call. Definitions only.
pub mod Outcome
