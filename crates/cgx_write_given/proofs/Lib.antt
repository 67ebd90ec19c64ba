-- `Items`: one item as the bytes of its field. `Layouts`: a body of items against its fields. `Records`: a call's record against a reader's rules. `Calls`: a call
-- is taken or refused. `Stores`: the buffer after a call. `Sizes`: the size of what each call writes. `Unforged`: the place of the writer after a record. `Histories`: calls one after another, read back. `Rooms`: room enough, and too little. `Calling`: what
-- the calls of each kind give is well typed. `Seconds`: the second of a date. `Ends`: a wire's end style. `Ranges`: what the prover knows of parameters, as that asks it. `Promises`: all that `Demands` states.
pub mod Items
pub mod Widths
pub mod Layouts
pub mod Records
pub mod Calls
pub mod Stores
pub mod Sizes
pub mod Unforged
pub mod Histories
pub mod Rooms
pub mod Calling
pub mod Ranges
pub mod Seconds
pub mod Ends
pub mod Specimens
pub mod Promises
-- `Srefs`: the size of an SREF.
pub mod Srefs
