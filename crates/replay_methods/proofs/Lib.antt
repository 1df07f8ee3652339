-- Laws that the five records' proofs cite.
mod Answered
