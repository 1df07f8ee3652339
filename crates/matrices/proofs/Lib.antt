-- Laws of matrices over any record; those that the crates of the entries cite are public.
-- places of a square matrix in flat floats
pub mod Places
-- LU: its columns case by case
pub mod Lu
mod PivotSought
mod PivotBrought
-- the order: what exchanges keep, and parity
mod Exchanges
pub mod Parity
-- slopes never steer
pub mod Slopes
-- rows of floats are rows of records
pub mod RowsOfRecords
mod RowsSwapped
-- for the code over a record: its inner loops, the starts of solve and inverse, and the two ways out of an entry
pub mod Inner
pub mod Starts
pub mod Answers
-- beside demand 3, of what the entries leave: previous contents and refusals, and that what LU left is accepted
mod PreviousContents
mod AfterLu
-- the code over a record, function by function: its loops' invariants, a turn of each, and what a function's calls amount to
pub mod Held
pub mod Turns
pub mod RowsReduced
pub mod ColumnsRun
pub mod DiagonalWalk
pub mod Substitution
pub mod StartsWritten
pub mod EntriesAnswered
-- the entries by what their contracts say
pub mod Calls
-- the readings of an answer leave one number and one column
pub mod OneAnswer
