-- What the contracts of `HyperHyperDual` are written with. Definitions only.
pub mod Rules
pub mod Laws
