-- Where a reader is.
pub mod Reading
