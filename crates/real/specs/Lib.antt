-- What the contracts of every crate are written with. Definitions only.
pub mod Operations
pub mod Sign
pub mod Root
pub mod Bits
pub mod Nearest
