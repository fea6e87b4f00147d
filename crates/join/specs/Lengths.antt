-- The length of a canonical stream, by its names and ranges alone. Rests on overlay's runs and
-- range marks, and on the heads of the stream format's records.
use Rattle.std.specs.Prelude.{ℕ, ◌+◌, List, [], ◌∷◌, length}
use Rattle.overlay.specs.declared.runs.Run.{Run}
use Rattle.overlay.specs.declared.ranges.RangeMark.{RangeMark}
use Rattle.overlay.specs.declared.ranges.RangeMark.TheVariants as range
use Rattle.stream.specs.Records.{header, records_bytes, from_records}
use Rattle.stream.specs.declared.limits.TheConstants.{NAME_HEAD, RANGE_HEAD, SIZE_HEAD}

-- a data record takes its head, and a w its payload
abbrev pub marked_length : RangeMark → ℕ → ℕ
marked_length range.Zeroed n = RANGE_HEAD
marked_length range.Written n = RANGE_HEAD + n

abbrev pub record_length : Run RangeMark → ℕ
record_length r = marked_length r.mark r.length

abbrev pub records_length : List (Run RangeMark) → ℕ
records_length [] = 0
records_length (r ∷ rs) = record_length r + records_length rs

-- the header, the head of t, s and e, and then what the names and the data records take
abbrev pub stream_length : List ℕ → List ℕ → List (Run RangeMark) → ℕ
stream_length from to rs = length header + NAME_HEAD + SIZE_HEAD + 1 + length (records_bytes (from_records from)) + length to + records_length rs
