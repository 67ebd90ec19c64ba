pub mod Strings
pub mod Chunks
pub mod Boxes
pub mod Pieces
