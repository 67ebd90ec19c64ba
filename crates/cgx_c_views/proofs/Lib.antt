-- `Stored`: what rows of stores leave, a law a kind. `Demand`: what is proved of the words of a view.
pub mod Stored
pub mod Demand
