-- The writer: what a call is `Given`, which of that is well `Typed`, what `Writing` does with it. `Demands` says what is proved of it; start there.
pub mod Demands
pub mod Given
pub mod Typed
pub mod Writing
pub mod Specimens
-- `Srefs`: an SREF as the code computes it.
pub mod Srefs
