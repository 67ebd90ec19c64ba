-- What is stored of a record's fields.
pub mod Fill
