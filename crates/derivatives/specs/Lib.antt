-- What the contracts of the elementary functions are written with: the series of each function, the plan of each request, and what a record makes of a plan;
-- and what sph_j1_series is held to. Definitions only.
pub mod Series
pub mod Plan
pub mod Apply
pub mod BesselTerms
