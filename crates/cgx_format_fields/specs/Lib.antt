-- Whether a text has a zero byte.
pub mod Zeros
