-- What reading promises of a stream's names, its size and its runs, on the side of a join for which
-- it was read. Rests on records and what they say at their places, on reading, on sound lists, on
-- the stream's parts, and on overlay's runs and payloads.
use Rattle.std.specs.Prelude.{◌≡◌, ℕ, ◌≤◌, List, [], map, length, Ok}
use Rattle.overlay.specs.declared.runs.Run.{Run}
use Rattle.overlay.specs.declared.payloads.PayloadMark.{PayloadMark}
use Rattle.overlay.specs.declared.payloads.Side.{Side}
use Rattle.stream.specs.declared.limits.TheConstants.{LONGEST_NAME}
use Rattle.stream.specs.Records.{Content, stream_bytes, data_of, from_of, to_of, size_in}
use Rattle.stream.specs.Places.{run_record}
use Rattle.stream.specs.Verdict.{verdict}
use Rattle.stream.specs.Sound.{Sound}
use Rattle.stream.specs.Parts.{StandsFor}

-- Read on a side: the bytes are the stream of sound records. Names and size are what these say. The
-- runs with the bytes at their places are the data records, one for one, and mean their difference
-- in every join where the bytes have that side.
pub record ReadOn (side : Side) (bytes from to : List ℕ) (size : ℕ) (runs : List (Run PayloadMark)) : Type 0 where
  pub records : List Content
  pub was_read : verdict bytes ≡ Ok records
  pub sound : Sound records
  pub whole : bytes ≡ stream_bytes records
  pub from_is : from ≡ from_of [] records
  pub to_is : to ≡ to_of [] records
  pub size_is : size ≡ size_in 0 records
  pub runs_are : map (run_record bytes) runs ≡ data_of records
  pub stands : StandsFor side bytes records runs size
  pub from_short : length from ≤ LONGEST_NAME
  pub to_short : length to ≤ LONGEST_NAME

-- read on one of the sides
abbrev pub WasRead : List ℕ → List ℕ → List ℕ → ℕ → List (Run PayloadMark) → Type 0
WasRead bytes from to size runs = (side : Side) × ReadOn side bytes from to size runs
