-- Views as words of eight bytes, and what is proved of them.
pub mod ViewWords
pub mod Demand
