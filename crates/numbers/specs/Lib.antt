-- Longs by the weights of their bits, and what is proved of their steps.
pub mod Weights
pub mod Demand
