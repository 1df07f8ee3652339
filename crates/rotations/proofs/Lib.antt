-- Laws of a rotation that belong to no one function.
-- what carries a rotation from one record to another
pub mod Carry
-- the records that lent floats hold, and work on the same floats
pub mod Held
pub mod Same
-- what is chosen for an entry, and the tangent
mod Chosen
-- the rotation, and an entry by its choices
mod Turned
