-- `Lent`: what is left, by the number and the offset of an answer. `Demand`: the writers that a caller's words, calls and makers lead to come back from C as they went.
pub mod Lent
pub mod Demand
