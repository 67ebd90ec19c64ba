-- Offsets and runs as numbers.
pub mod Laws
pub mod Sound
