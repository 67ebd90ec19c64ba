-- The extent of a cell. `Demand` says what is proved of it; start there. `Cells` has what the loops over a sequence answer.
pub mod Demand
pub mod Extent
pub mod Cells
