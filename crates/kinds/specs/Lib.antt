-- What the contracts of the kinds are written with. Definitions only.
pub mod Kinds
