-- `Openings`: a file's first four bytes. `HeaderLaws`: the parts of a header. `Heads`: the record that is cut by it.
pub mod Openings
pub mod HeaderLaws
pub mod Heads
