-- Laws of Matrix Market texts, for the proofs of their reader and their writer. Assumes nothing.
-- a number in a text, and a float as a whole number
pub mod Decimals
pub mod DecimalsBack
pub mod WholeFloats
pub mod SignedLines
pub mod Zeros
-- how long a text is
pub mod Length
-- the reader and the format agree
pub mod Lines
pub mod ReadsFormat
pub mod Fronts
pub mod HeadTaken
pub mod EntriesTaken
pub mod FormatRead
pub mod WrongEntries
-- what the number 0 says, and what a call leaves beside its answer
pub mod Refusals
pub mod Buffers
-- where the entries stand, and the matrix of them
pub mod Places
pub mod ColumnByColumn
pub mod MatrixAt
pub mod HoldsNumbers
-- what is written is of the format
pub mod EntryLines
pub mod Writable
pub mod WritesFormat
-- what was written, read again
pub mod MatrixBack
pub mod RoundTrip
-- what was read, written again
pub mod WriteBack
-- one answer
pub mod OneAnswer
