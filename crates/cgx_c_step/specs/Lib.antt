-- What a step leaves in lent memory, and what steps in a row give.
pub mod Lent
pub mod Demand
