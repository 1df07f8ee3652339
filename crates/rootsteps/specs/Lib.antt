-- What the contracts of the table are written with. A text is the list of its bytes. Definitions only.
pub mod Words
pub mod Request
pub mod Start
pub mod Table
pub mod Output
