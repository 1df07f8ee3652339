-- What the contracts say of refusals: the documents' numbers, the enum's, and the limits that they are given at. Definitions only.
pub mod Number
pub mod Largest
pub mod Refused
