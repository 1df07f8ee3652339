-- What the contracts of lent floats are written with. Definitions only.
pub mod Words
