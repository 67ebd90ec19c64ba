-- A call's plan as the code computes it.
pub mod Plans
-- What the plan of an SREF looks at.
pub mod Srefs
