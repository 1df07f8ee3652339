-- Laws that the proofs cite. Assumes nothing.
mod WholeParts
mod Pieces
mod Records
mod Answering
pub mod OneAnswer
