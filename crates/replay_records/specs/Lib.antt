-- What a record type answers to a case. Definitions only.
pub mod Kinds
