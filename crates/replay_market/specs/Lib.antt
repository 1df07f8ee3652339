-- When a case of the Matrix Market files is the same. Definitions only.
pub mod Cases
