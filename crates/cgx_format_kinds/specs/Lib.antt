-- What typed fields and views say, in the terms of the format.
pub mod Meant
