-- What `serve` has read and done, between two reads.
use Rattle.std.specs.Prelude.{ℕ, List, Option, ◌≤◌, ◌*◌, length}
use Rattle.std.specs.Io.KnownBytes.{Consumes}
use Rattle.pk_shell.specs.Asked.{Asked}
use Rattle.pk_shell.specs.Transcript.{Transcript}

-- these bytes were read since the start, in so many reads of a byte at least and 16,384 at most, and
-- this came of them
pub record Progress {S : Type 0} (Replies : S → Asked → List ℕ → S → Type 0)
    (s0 : S) (r0 r w0 : Option (List ℕ)) (reads : ℕ) (held : Option (List ℕ)) (s : S)
    (w : Option (List ℕ)) : Type 0 where
  pub read : List ℕ
  pub consumed : Consumes r0 r read
  pub many : reads ≤ length read
  pub few : length read ≤ 16384 * reads
  pub transcript : Transcript Replies s0 w0 read held s w
