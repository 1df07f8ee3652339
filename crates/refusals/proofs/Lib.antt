-- Laws for whatever refuses. Assumes nothing.
pub mod FirstRefusal
pub mod Numbers
