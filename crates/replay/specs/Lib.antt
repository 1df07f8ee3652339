-- What the promises of the replaying programs are written with. Definitions only.
pub mod Reading
pub mod Same
pub mod Tally
