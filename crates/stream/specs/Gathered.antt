-- What reading gathers of a stream, record by record: its names by their places, its size and its
-- data records as runs. Rests on records and the steps over them, on overlay's runs and marks, and
-- on faults.
use Rattle.std.specs.Prelude.{ℕ, ◌+◌, ◌<◌, List, [], ◌∷◌, ◌++◌, length, take, Ok, Result}
use Rattle.stream.specs.Records.{Content, from_name, to_name, image_size, data_at, zeros_at, record_bytes}
use Rattle.stream.specs.Steps.{span}
use Rattle.stream.specs.declared.limits.TheConstants.{MOST_RECORDS, NAME_HEAD, RANGE_HEAD}
use Rattle.stream.specs.declared.records.Record.{Record}
use Rattle.stream.specs.declared.records.Record.TheVariants.{From, To, Size, Write, Zero, End}
use Rattle.overlay.specs.declared.runs.Run.{Run}
use Rattle.overlay.specs.declared.payloads.PayloadMark.{PayloadMark}
use Rattle.overlay.specs.declared.payloads.PayloadMark.TheVariants.{Zeroed, Written}
use Rattle.overlay.specs.declared.payloads.Side.{Side}
use Rattle.stream.specs.declared.buffers.RunBuffer.{RunBuffer}
use Rattle.stream.specs.declared.records.Span.{Span}
use Rattle.stream.specs.declared.summary.Summary.{Summary}
use Rattle.fault.specs.Fault.{and_then}
use Rattle.fault.specs.declared.fault.Fault.{Fault}

-- the names by their places, the size, and the runs of a stream
pub record Gathered : Type 0 where
  pub from : Span
  pub to : Span
  pub size : ℕ
  pub runs : List (Run PayloadMark)

abbrev pub zero_run : ℕ → ℕ → Run PayloadMark
zero_run offset n = record { offset = offset; length = n; mark = Zeroed }

abbrev pub payload_run : Side → ℕ → ℕ → ℕ → Run PayloadMark
payload_run side offset n place = record { offset = offset; length = n; mark = Written side place }

abbrev pub nothing_gathered : Gathered
nothing_gathered = record { from = span 0 0; to = span 0 0; size = 0; runs = [] }

abbrev pub with_run : Gathered → Run PayloadMark → Gathered
with_run g run = record g { runs = g.runs ++ (run ∷ []) }

-- with the record whose tag is at a place
abbrev pub with_record : Side → Gathered → ℕ → Content → Gathered
with_record side g place (from_name name) = record g { from = span (place + NAME_HEAD) (length name) }
with_record side g place (to_name name) = record g { to = span (place + NAME_HEAD) (length name) }
with_record side g place (image_size n) = record g { size = n }
with_record side g place (data_at offset bytes) = with_run g (payload_run side offset (length bytes) (place + RANGE_HEAD))
with_record side g place (zeros_at offset n) = with_run g (zero_run offset n)

-- with the records from a place on
abbrev pub with_records : Side → Gathered → ℕ → List Content → Gathered
with_records side g place [] = g
with_records side g place (c ∷ cs) = with_records side (with_record side g place c) (place + length (record_bytes c)) cs

abbrev pub gathered_from : Side → Gathered → ℕ → Result (List Content) Fault → Result Gathered Fault
gathered_from side g place r = and_then r (λ cs. Ok (with_records side g place cs))

-- with a record as the reader found it
abbrev pub with_found : Side → Gathered → Record → Gathered
with_found side g (From name) = record g { from = name }
with_found side g (To name) = record g { to = name }
with_found side g (Size n) = record g { size = n }
with_found side g (Write offset n place) = with_run g (payload_run side offset n place)
with_found side g (Zero offset n) = with_run g (zero_run offset n)
with_found side g End = g

-- the runs that a buffer has
abbrev pub buffer_runs : RunBuffer → List (Run PayloadMark)
buffer_runs buffer = take buffer.count buffer.runs

-- what a summary and a buffer say
abbrev pub gathered_of : Summary → RunBuffer → Gathered
gathered_of s buffer = record { from = s.from; to = s.to; size = s.size; runs = buffer_runs buffer }

abbrev pub gathered_result : Result Summary Fault → RunBuffer → Result Gathered Fault
gathered_result r buffer = and_then r (λ s. Ok (gathered_of s buffer))

-- after n runs there is room for the run of a data record
abbrev pub RunFits : ℕ → Record → Type 0
RunFits n (Write offset m place) = n < MOST_RECORDS
RunFits n (Zero offset m) = n < MOST_RECORDS
RunFits n r = Unit {0}
