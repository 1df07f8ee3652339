-- Laws that the proofs cite. Assumes nothing.
mod EndedNumbers
mod HeadLines
mod EntryLines
mod Placing
mod Answering
pub mod OneAnswer
