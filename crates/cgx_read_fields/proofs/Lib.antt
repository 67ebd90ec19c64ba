-- Laws that several proofs cite: `Texts`, where the text of a good string ends; `Parts`, the values of fields by their offsets in the file; `Cuts`, a body
-- cut at these offsets; `Ready`, what a readable record gives the reader of its kind; `Libraries`, `Labels` and `Srefs`, the fields of a LIBRARY, of a TEXT, and of an SREF by its flags.
pub mod Texts
pub mod Parts
pub mod Cuts
pub mod Ready
pub mod Libraries
pub mod Labels
pub mod Srefs
