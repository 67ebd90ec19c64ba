-- `Places`: the words of a place say that place. `Demand`: what is proved of them.
pub mod Places
pub mod Demand
