-- What the functions of a record ask and answer.
pub mod Faults
