-- The makers: what they append, and that it is all or nothing. `Demand` says what is proved of it, `Planned` is the plan that the code computes, `Former` what they appended before Req 08.
pub mod Makers
pub mod Former
pub mod Planned
pub mod Demand
