-- What the contracts of the runner are written with: document 01's section on the runner. A text is the list of its bytes. Definitions only.
pub mod Request
pub mod Body
pub mod Lines
pub mod Output
pub mod Decided
