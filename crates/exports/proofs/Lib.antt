-- Laws that the proofs cite.
-- this crate's promises leave one outcome each
pub mod OneAnswer
-- calls of the Matrix Market exports, one and two
mod MarketCalls
-- LU, solve, determinant and inverse at the two records that are exported
pub mod AtDual
pub mod AtHyperDual
