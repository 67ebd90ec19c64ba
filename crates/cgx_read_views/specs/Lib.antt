-- What is promised of the view of a record.
pub mod RecordViews
