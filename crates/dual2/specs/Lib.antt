-- What the contracts of `Dual2` are written with. Definitions only.
pub mod Rules
pub mod Laws
