-- One record in normal form.
pub mod Copy
