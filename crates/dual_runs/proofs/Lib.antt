-- The agreement of both functions with the flat ones, and that their promises leave one answer. Assumes nothing.
pub mod Agree
mod OneAnswer
