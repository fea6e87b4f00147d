-- What apply hands to a store: records of the stream, in turn, each with the number of the
-- canonical record that it belongs to. Rests on what records mean.
use Rattle.std.specs.Prelude.{ℕ, ◌+◌, Bool, true, false, if◌then◌else◌, ◌&&◌, List, [], ◌∷◌, ◌++◌, map, nat_le, nat_lt}
use Rattle.std.specs.List.{filter}
use Rattle.overlay.specs.declared.runs.Run.{Run}
use Rattle.overlay.specs.declared.ranges.RangeMark.{RangeMark}
use Rattle.overlay.specs.declared.ranges.RangeMark.TheVariants as range
use Rattle.stream.specs.Records.{Content, image_size, data_at, zeros_at, data_of, size_in, offset_of}
use Rattle.stream.specs.Meaning.{cells, ranges}

-- a record with the number of its canonical record
abbrev pub Step : Type 0
Step = ℕ × Content

abbrev pub with_number : ℕ → List Content → List Step
with_number i cs = map (λ c. (i, c)) cs

-- whether a record is a w, and the w records of a list
abbrev pub is_write : Content → Bool
is_write (data_at offset bytes) = true
is_write c = false

abbrev pub writes : List Content → List Content
writes cs = filter is_write cs

-- the data records of a list that begin inside the n positions from an offset on
abbrev pub begun_in : ℕ → ℕ → List Content → List Content
begun_in offset n [] = []
begun_in offset n (c ∷ cs) = if nat_le offset (offset_of c) && nat_lt (offset_of c) (offset + n) then c ∷ begun_in offset n cs else begun_in offset n cs

-- what is handed over for a range, where `inside` are the data records that begin inside it: a z as
-- a whole, a w in its parts
abbrev pub range_records : RangeMark → ℕ → ℕ → List Content → List Content
range_records range.Zeroed offset n inside = zeros_at offset n ∷ []
range_records range.Written offset n inside = writes inside

-- the steps of ranges, which are numbered from i on
abbrev pub steps_from : ℕ → List Content → List (Run RangeMark) → List Step
steps_from i datas [] = []
steps_from i datas (r ∷ rs) =
    with_number i (range_records r.mark r.offset r.length (begun_in r.offset r.length datas)) ++ steps_from (i + 1) datas rs

-- the steps of a stream's records: its size as record 0, then its ranges, which are the canonical
-- records, numbered from 1
unfoldable pub steps : List Content → List Step
steps cs = (0, image_size (size_in 0 cs)) ∷ steps_from 1 (data_of cs) (ranges (cells cs))
