-- Places as words of eight bytes, and what is proved of them.
pub mod Words
pub mod Demand
