-- What a case of records-KIND.txt or runs-KIND.txt holds, and when it is the same. Definitions only.
pub mod Table
