-- Laws: `ItemsInside`, the test of an index, which the proofs of functions cite; `Agree`, for callers: what is read by an index or a span is what a view says. `Demand`: what is proved of them.
pub mod ItemsInside
pub mod Agree
pub mod Demand
