-- Laws that several proofs cite: `Parts`, a part of a list written out; `Signed`, two's complement as std has it; `Same`, that eight bytes are the same where both halves are.
-- `Demand`: what is proved of longs.
pub mod Parts
pub mod Signed
pub mod Same
pub mod Demand
