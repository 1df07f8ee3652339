-- Laws that the crates above cite. Assumes nothing.
pub mod Loop
pub mod Flat
pub mod Inside
pub mod RealParts
-- what the code over a record asks of it, and one record of its floats read and stored
pub mod Laws
pub mod Cells
-- the loop of a sum or a product
pub mod Joins
-- an answer is known by its outcome
pub mod Outcomes
