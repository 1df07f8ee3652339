-- Laws of loops that fill a lent buffer, whatever it holds. Assumes nothing.
pub mod Fill
