-- The plan of several records as the code computes it, from the room alone, and the stores that follow where it is taken. Definitions only.
use Rattle.std.specs.Prelude.{cond, List, [], ◌∷◌, ℕ, Ok}
use Rattle.cgx_spec.specs.Records.{bytes_of}
use Rattle.buffers.specs.Put.{put}
use Rattle.cgx_write_given.specs.declared.Writer.{Writer}
use Rattle.cgx_write_given.specs.Given.{Given, written}
use Rattle.cgx_write_given.specs.Writing.{offset_of, writer_after, Answer, planned, is_taken, writer_or}

-- Each is planned from the writer after the one before it, up to the first refusal.
unfoldable pub all_planned : ℕ → Writer → List Given → Answer
all_planned room w [] = Ok w
all_planned room w (g ∷ gs) = let a = planned room w g in cond (is_taken a) (all_planned room (writer_or w a) gs) a

unfoldable pub all_stored : List ℕ → Writer → List Given → List ℕ
all_stored buf w [] = buf
all_stored buf w (g ∷ gs) = all_stored (put buf (offset_of w) (bytes_of (written g))) (writer_after w g) gs
