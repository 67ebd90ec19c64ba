-- `Calls`: what a call does, left in lent memory.
pub mod Calls
