-- `Bodies`, a body's normal form is the body with its normal reals stored over the others; `Copies`, the same of a whole record in a file.
pub mod Bodies
pub mod Copies
