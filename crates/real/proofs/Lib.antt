-- Laws that the proofs cite; those that other crates cite are public.
-- sums and products commute
pub mod Commute
-- what it is that a promise leaves one answer
pub mod Only
-- the sign bit, NaNs and words
pub mod Nan
pub mod SignBit
-- the square root
mod Squares
pub mod BitByBit
mod Differences
pub mod Rounded
mod NearUnits
mod Patterns
mod Ends
pub mod Nearest
pub mod RootIsNearest
-- this crate's promises leave one answer each
mod OneAnswer
