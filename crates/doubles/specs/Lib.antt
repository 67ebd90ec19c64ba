-- The real that equals a double, and what is proved of it.
pub mod Doubles
pub mod Demand
