-- `Made`: laws of the definitions, one for each outcome, which the proofs of functions cite. `Equal`: which doubles equal a real. `Demand`: what is proved of the answer.
pub mod Made
pub mod Equal
pub mod Demand
