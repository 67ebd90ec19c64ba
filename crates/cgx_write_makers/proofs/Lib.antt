-- `Turns`: several records planned and stored are calls in turn, all or none. `Outline`: the two that both makers append. `Demand`: what is proved of the makers. `Unchanged`: what they append is what it was.
pub mod Turns
pub mod Outline
pub mod Demand
pub mod Unchanged
