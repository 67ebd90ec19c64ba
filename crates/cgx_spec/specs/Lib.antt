-- What CGX is, by 01-scope.md, in its order: numbers, fields, the eleven kinds, sequence and context, records, files, walking; then stated a second time. `Demands` says what is
-- proved of these definitions; start there.
pub mod Demands
pub mod Numbers
pub mod Reals
pub mod Dates
pub mod Strings
pub mod Fields
pub mod Kinds
pub mod Order
pub mod Verdicts
pub mod Records
pub mod Files
pub mod Walking
pub mod Written
pub mod Restated
pub mod Checks
pub mod Specimens
