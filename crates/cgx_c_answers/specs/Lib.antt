-- What the answers of the library are to a C caller.
pub mod Told
