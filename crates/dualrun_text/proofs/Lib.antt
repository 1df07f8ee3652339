-- Laws that the proofs cite, and the theorems of the runner (those are public). Assumes nothing.
-- reading
mod FirstLine
mod LineCame
mod FirstBytes
mod Words
mod Moved
-- writing
mod Lines
-- the two commands
mod Commands
-- printing what was read gives it back
pub mod ReadBack
-- 65,536 bytes are enough to read and to write
pub mod Whole
-- the first line decides a refusal
pub mod LineDecides
-- the promise of `run` leaves one outcome
mod OneAnswer
