-- What the inner functions of the Matrix Market reader tell, in the words of the format. Definitions only.
pub mod Kinds
pub mod Told
