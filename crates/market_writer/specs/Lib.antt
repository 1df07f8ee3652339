-- What the inner functions of the Matrix Market writer tell, in the words of the format. Definitions only.
pub mod Told
