-- Laws of Jacobi's run over any record, and what is proved of the entry beside its promise.
-- what carries a run from one record to another, and what is read
pub mod Carry
pub mod Above
-- the entry over any record: its two ways out, two calls
pub mod Slopes
-- scratch and lent floats of the lengths asked, cleared and copied
pub mod Scratch
-- what a run starts from
pub mod Started
-- the sweeps, and the order
pub mod Swept
pub mod Ordered
-- the entry's tests, and the entry done
pub mod Answered
-- no second answer, and no second content of a buffer
pub mod OneAnswer
-- demand 3, and the part below the diagonal
pub mod NeverSteered
-- what a buffer held before, and what a refusal leaves
pub mod PreviousContents
