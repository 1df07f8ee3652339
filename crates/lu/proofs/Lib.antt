-- What is proved of the entries beside their promises: laws of the crate `matrices` over any record, stated of the contracts here.
-- no second answer, and no second content of a buffer
pub mod OneAnswer
-- the order that LU leaves, and that 7 and 8 never refuse it
pub mod LeavesOrder
-- what a buffer held before, and what a refusal leaves
pub mod PreviousContents
-- demand 3
pub mod NeverSteered
