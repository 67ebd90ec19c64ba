-- What is said of a whole file, and what a refused call says: the number of a refusal and the place that it names. Definitions only.
use Rattle.std.specs.Prelude.{ℕ, Result, Ok, Err, Option, None, Some}
use Rattle.cgx_spec.specs.declared.Fault.{Fault}
use Rattle.cgx_spec.specs.declared.Fault.TheVariants.{NotCgx, Level, NoEndlib, Cut, Size, Order, Flags, Length, Date, Number, String, NotClosed, Trailing, Room, TooLarge, NoSuch}
use Rattle.cgx_spec.specs.declared.FileRefusal.{FileRefusal}
use Rattle.cgx_spec.specs.declared.Refusal.{Refusal}

-- The number of a refusal in 01's table.
abbrev pub fault_number : Fault → ℕ
fault_number NotCgx = 1
fault_number Level = 2
fault_number NoEndlib = 3
fault_number Cut = 4
fault_number Size = 5
fault_number Order = 6
fault_number Flags = 7
fault_number Length = 8
fault_number Date = 9
fault_number Number = 10
fault_number String = 11
fault_number NotClosed = 12
fault_number Trailing = 13
fault_number Room = 14
fault_number TooLarge = 15
fault_number NoSuch = 16

-- The number of the fault that is found, if any.
abbrev pub numbered : Result (Unit {0}) Fault → Option ℕ
numbered (Ok _) = None
numbered (Err e) = Some (fault_number e)

-- A file is accepted, or refused with a number and a place.
abbrev pub Verdict : Type 0
Verdict = Result (Unit {0}) FileRefusal

abbrev pub accepted : Verdict
accepted = Ok tt

abbrev pub refused : ℕ → ℕ → Verdict
refused n at = Err (record { number = n; at = at })

-- A file's refusal as a call tells it.
abbrev pub of_file : FileRefusal → Refusal
of_file r = record { number = r.number; at = Some r.at }
