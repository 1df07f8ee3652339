-- Orders of rows, and how one is tested. Definitions only.
pub mod Order
pub mod Walk
