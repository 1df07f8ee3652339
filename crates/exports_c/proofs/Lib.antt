-- The promise of each export leaves one outcome.
pub mod OneAnswer
