-- Laws for callers: `Exact`, that an exact answer has bits.
pub mod Exact
