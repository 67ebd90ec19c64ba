-- Laws that proofs here and above cite: `Puts`, stores one after another, one inside another and one over another; `Words`, a copy by words;
-- `Padding`, a text with its zero bytes.
pub mod Puts
pub mod Words
pub mod Padding
