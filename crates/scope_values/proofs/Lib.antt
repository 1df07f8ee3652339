-- The statements over the two tables.
mod Computed
