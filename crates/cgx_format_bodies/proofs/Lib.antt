pub mod Faults
pub mod Srefs
