-- Which places cursors are.
pub mod Cursors
