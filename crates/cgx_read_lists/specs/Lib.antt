-- What an index of a list, or a span, gives of a file, and what is proved of it.
pub mod Lists
pub mod Demand
