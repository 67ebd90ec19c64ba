-- What a call of the writer leaves in a C caller's memory, what the structs that it is given say, and what is proved of the writer's words.
pub mod Lent
pub mod Parts
pub mod Demand
