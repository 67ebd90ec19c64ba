-- All that `Demands` states, proved.
use Rattle.cgx_write_given.specs.Demands.{WriterPromises}
use Rattle.cgx_write_given.proofs.Records.{same-rules}
use Rattle.cgx_write_given.proofs.Histories.{any-calls}
use Rattle.cgx_write_given.proofs.Rooms.{round_trip, no_room}
use Rattle.cgx_write_given.proofs.Stores.{untouched, numbered, goes_on}
use Rattle.cgx_write_given.proofs.Calling.{calls-promises}
use Rattle.cgx_write_given.proofs.Seconds.{given-seconds}
use Rattle.cgx_write_given.proofs.Ends.{wire-ends}
use Rattle.cgx_write_given.proofs.Specimens.{specimens}

pub writer-promises : WriterPromises
writer-promises =
    record {
      round = record { round_trip = round_trip; no_room = no_room; any-calls = any-calls };
      untouched = untouched;
      rules = record { same-rules = same-rules; numbered = numbered; goes_on = goes_on };
      given = calls-promises;
      seconds = given-seconds;
      ends = wire-ends;
      specimens = specimens;
    }
