-- `Chain`: a chain of stores. `Srefs`: the stores of an SREF are the bytes of its record.
pub mod Chain
pub mod Srefs
