-- What the contracts of readers and writers of texts are written with. A text is the list of its bytes. Definitions only.
pub mod Bytes
pub mod Digits
pub mod Numbers
pub mod Whole
pub mod Page
