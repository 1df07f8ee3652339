-- What the contracts of a rotation are written with. Definitions only.
pub mod Rotation
pub mod Vector
pub mod Buffers
