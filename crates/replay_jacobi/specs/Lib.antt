-- When a case of jacobi.txt is the same, and what the second run of it is handed. Definitions only.
pub mod Runs
