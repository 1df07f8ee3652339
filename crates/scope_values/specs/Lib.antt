-- The values of documents 01 and 02. Definitions only.
pub mod Table
