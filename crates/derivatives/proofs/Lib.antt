-- Laws of the elementary functions; those that `records` cites are public.
-- what goes by a sign or a size, case by case, over any record
pub mod Signs
-- real parts come from real parts alone, over any record
pub mod RealParts
-- the rules of sph_j for small x are the beginnings of their series
pub mod BesselTerms
-- the plan of a request, from what the request is
mod Requests
-- the exponents of powi
mod Falling
-- this crate's promises leave one answer each
mod OneAnswer
