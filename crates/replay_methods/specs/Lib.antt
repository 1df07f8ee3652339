-- When a method of a record gives the recorded answer. Definitions only.
pub mod Methods
