-- Laws of the kinds. Assumes nothing.
-- this crate's promises, and the number of a refusal, leave one outcome each
pub mod OneAnswer
