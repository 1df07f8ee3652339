-- What the contracts of `Dual` are written with. Definitions only.
pub mod Rules
pub mod Laws
