-- What the normal-form maker answers and leaves.
pub mod Demand
pub mod NormalAnswer
