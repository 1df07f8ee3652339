-- What the contracts of `Dual3` are written with. Definitions only.
pub mod Rules
pub mod Laws
