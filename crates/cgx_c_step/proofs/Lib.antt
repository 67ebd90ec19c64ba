-- `Steps`: what a step answers and leaves, by what it comes to. `Demand`: what steps in a row give.
pub mod Steps
pub mod Demand
