pub mod Hulls
pub mod Cells
pub mod Examples
pub mod Demand
