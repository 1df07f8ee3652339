-- What a program that replays matrices has room for, and when a case of the matrices' files is the same. Definitions only.
pub mod Room
pub mod Cases
