-- What readers of a record's fields ask and answer.
pub mod Views
