-- Laws of texts, for the proofs here and for those of the crates that read or write a format. Assumes nothing.
-- reading
pub mod Every
pub mod Digits
pub mod Numbers
pub mod Newline
pub mod WholeNumbers
-- writing
pub mod Page
pub mod Decimals
pub mod Spelling
-- what was read, written again
pub mod DigitsBack
