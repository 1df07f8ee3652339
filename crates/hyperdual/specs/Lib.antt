-- What the contracts of `HyperDual` are written with. Definitions only.
pub mod Rules
pub mod Laws
