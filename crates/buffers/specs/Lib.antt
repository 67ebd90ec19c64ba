-- Stores of bytes into a buffer.
pub mod Put
