-- Laws of orders that belong to no one function.
-- what is left of a list, and odd numbers
pub mod Rest
pub mod Odd
-- permutations, and how often a number occurs in one
pub mod Permutation
pub mod Times
-- the walk
pub mod Walk
