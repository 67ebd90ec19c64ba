-- `Fills`: of any kind. `Pairs`: two longs as one word.
pub mod Fills
pub mod Pairs
