-- `Dated`: the rules of dates, scales and a text. `Order`: the checks of a call, and what follows from a plan. `Ordered`: boxes read four numbers at a time. `Faults`: the rules 7 to 12 of each kind.
pub mod Dated
pub mod Order
pub mod Ordered
pub mod Faults
-- `Polys`, `Srefs`: the rules 7 to 12 of these two.
pub mod Polys
pub mod Srefs
