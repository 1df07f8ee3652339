-- Laws that the proofs cite. Assumes nothing.
-- reading
mod Asking
-- where the steps begin
mod Scaling
-- the steps
mod AllSteps
mod Rows
-- writing
mod Lines
-- what the last two lines say is true
pub mod LastLines
-- 4,096 bytes are enough to read and to write
pub mod Whole
-- this crate's promise leaves one answer
mod OneAnswer
