-- What was gathered of a stream is what its records say: the runs and spans with the bytes at their
-- places. Rests on the records, on Gathered and on parts of byte lists.
use Rattle.std.specs.Prelude.{◌≡◌, ℕ, ◌+◌, ◌≤◌, List, [], map, length}
use Rattle.stream.specs.Bytes.{field}
use Rattle.stream.specs.Records.{Content, data_at, zeros_at, stream_bytes, data_of, from_of, to_of, size_in}
use Rattle.stream.specs.Gathered.{Gathered, with_records, nothing_gathered}
use Rattle.overlay.specs.declared.runs.Run.{Run}
use Rattle.overlay.specs.declared.payloads.PayloadMark.{PayloadMark}
use Rattle.overlay.specs.declared.payloads.PayloadMark.TheVariants.{Zeroed, Written}
use Rattle.overlay.specs.declared.payloads.Side.{Side}
use Rattle.stream.specs.declared.limits.TheConstants.{LONGEST_NAME}
use Rattle.stream.specs.declared.records.Span.{Span}

-- the data record that a run stands for, in the bytes of its stream
abbrev pub run_record_by : List ℕ → ℕ → ℕ → PayloadMark → Content
run_record_by xs offset n Zeroed = zeros_at offset n
run_record_by xs offset n (Written side place) = data_at offset (field xs place n)

abbrev pub run_record : List ℕ → Run PayloadMark → Content
run_record xs r = run_record_by xs r.offset r.length r.mark

-- the bytes of a name
abbrev pub span_bytes : List ℕ → Span → List ℕ
span_bytes xs s = field xs s.place s.length

-- a name's part of the bytes, which is no longer than a name may be
pub record NameSpan (bytes : List ℕ) (s : Span) : Type 0 where
  pub inside : s.place + s.length ≤ length bytes
  pub short : s.length ≤ LONGEST_NAME

-- what was gathered of the stream of a list, with the stream's bytes, is what the list says
pub record Tells (cs : List Content) (xs : List ℕ) (g : Gathered) : Type 0 where
  pub runs : map (run_record xs) g.runs ≡ data_of cs
  pub from : span_bytes xs g.from ≡ from_of [] cs
  pub to : span_bytes xs g.to ≡ to_of [] cs
  pub size : g.size ≡ size_in 0 cs

-- what was gathered of the stream of any list is what the list says
abbrev pub PlacesMatch : Type 0
PlacesMatch = (side : Side) (cs : List Content) → Tells cs (stream_bytes cs) (with_records side nothing_gathered 12 cs)
