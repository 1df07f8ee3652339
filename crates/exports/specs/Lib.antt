-- What the contracts of the exports are written with, beside the definitions of the entries. Definitions only.
pub mod Numbered
pub mod ByKind
