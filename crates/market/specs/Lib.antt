-- What the contracts of the Matrix Market reader and writer are written with: document 02, wish 2. A text is the list of its bytes. Definitions only.
pub mod Answers
-- the format by itself
pub mod Format
-- reading, over what is left of a text
pub mod Head
pub mod Entries
pub mod Read
-- writing
pub mod Text
pub mod Write
