-- Where a reader stands, and what a step of it promises. Rests on records, on the states and their
-- rules, on the checks of one record, on reading and on faults.
use Rattle.std.specs.Prelude.{◌≡◌, ℕ, if◌then◌else◌, List, length, take, drop, IfOk, Some, None, Ok, Err, Option, Result, nat_lt}
use Rattle.std.specs.Option.{is_some, unwrap_or}
use Rattle.stream.specs.Rule.{Seen, State, Meta, Data, late_rule}
use Rattle.stream.specs.Steps.{Pos, name_step, step_of, step_answer, pos_after, fault_at}
use Rattle.stream.specs.Records.{header}
use Rattle.stream.specs.Verdict.{start, same}
use Rattle.stream.specs.declared.records.Record.{Record}
use Rattle.stream.specs.declared.records.Record.TheVariants.{End}
use Rattle.stream.specs.declared.records.Span.{Span}
use Rattle.stream.specs.declared.reader.Metadata.{Metadata}
use Rattle.stream.specs.declared.reader.Reached.{Reached}
use Rattle.stream.specs.declared.reader.State as code
use Rattle.stream.specs.declared.reader.State.TheVariants as states
use Rattle.stream.specs.declared.reader.Reader.{Reader}
use Rattle.fault.specs.Fault.{and_then, fault, err_by}
use Rattle.fault.specs.declared.cause.Cause.{Cause}
use Rattle.fault.specs.declared.cause.Cause.TheVariants as causes
use Rattle.fault.specs.declared.fault.Fault.{Fault}

-- which of the metadata was read
abbrev pub seen_of : Metadata → Seen
seen_of m = record { from = m.from; to = m.to; sized = is_some m.size }

-- What a reader's state says: what was read, the image's size (0 before it is read), the end of the
-- last data record and how many there were.
abbrev pub state_of : code.State → State
state_of (states.Meta m) = Meta (seen_of m)
state_of (states.Data d) = Data

abbrev pub size_of_state : code.State → ℕ
size_of_state (states.Meta m) = unwrap_or m.size 0
size_of_state (states.Data d) = d.size

abbrev pub end_of_state : code.State → ℕ
end_of_state (states.Meta m) = 0
end_of_state (states.Data d) = d.end

abbrev pub count_of_state : code.State → ℕ
count_of_state (states.Meta m) = 0
count_of_state (states.Data d) = d.count

-- where a reader in a state stands at a place
abbrev pub pos_at : ℕ → code.State → Pos
pos_at place s = record { place = place; state = state_of s; size = size_of_state s; end = end_of_state s; count = count_of_state s }

-- where one stands in metadata, and where in data
abbrev pub in_meta : ℕ → Metadata → Pos
in_meta place m = pos_at place (states.Meta m)

abbrev pub in_data : ℕ → Reached → Pos
in_data place d = pos_at place (states.Data d)

-- where a reader stands, and the bytes from there on
abbrev pub pos_of : Reader → Pos
pos_of r = pos_at r.place r.state

abbrev pub rest_of : Reader → List ℕ
rest_of r = drop r.place r.bytes.now

-- how far data records reached in a state, where they may come
abbrev pub reached_of : code.State → Result Reached Cause
reached_of s = and_then (late_rule (state_of s)) (λ _. Ok (record { size = size_of_state s; end = end_of_state s; count = count_of_state s }))

-- a reader after the header of a stream, or the fault of a stream without one
pub record Opened (xs : List ℕ) (r : Result Reader Fault) : Type 0 where
  pub result : and_then r (λ x. Ok (pos_of x)) ≡ (if same (take 12 xs) header then Ok start else Err (fault causes.Header 0))
  pub bytes : IfOk r (λ x. x.bytes.now ≡ xs)

-- something was read, or refused: the answer and where the reader then stands are those of the
-- step; the bytes are the same
pub record Took {A : Type 0} (old new : Reader) (o : Result (A × Pos) Cause) (r : Result A Cause) : Type 0 where
  pub result : r ≡ step_answer o
  pub stands : pos_of new ≡ pos_after (pos_of old) o
  pub bytes : new.bytes ≡ old.bytes

-- the same of a name, whichever kind of record it is
abbrev pub TookName : Reader → Reader → Metadata → Result Span Cause → Type 0
TookName old new m r = (kind : Span → Record) → Took old new (name_step kind (in_meta old.place m) (rest_of old) (Meta (seen_of m))) (and_then r (λ s. Ok (kind s)))

-- the same of a record with the fault in place of the cause
pub record Stepped (old new : Reader) (r : Result Record Fault) : Type 0 where
  pub result : r ≡ err_by (fault_at (length old.bytes.now) old.place) (step_answer (step_of (pos_of old) (rest_of old)))
  pub stands : pos_of new ≡ pos_after (pos_of old) (step_of (pos_of old) (rest_of old))
  pub bytes : new.bytes ≡ old.bytes

-- nothing stands after the end, in a stream of `total` bytes
abbrev pub finish_answer : ℕ → ℕ → Result (Unit {0}) Fault
finish_answer total place = if nat_lt place total then Err (fault causes.Trailing place) else Ok tt

-- a record that is not the end, or none at the end
abbrev pub next_answer : ℕ → Record → Pos → Result (Option Record) Fault
next_answer total End q = and_then (finish_answer total q.place) (λ _. Ok None)
next_answer total r q = Ok (Some r)

abbrev pub next_of : ℕ → ℕ → Result (Record × Pos) Cause → Result (Option Record) Fault
next_of total place (Ok s) = next_answer total s.0 s.1
next_of total place (Err c) = Err (fault_at total place c)

-- the next record was read, or there was none, or the stream was refused
pub record Turned (old new : Reader) (r : Result (Option Record) Fault) : Type 0 where
  pub result : r ≡ next_of (length old.bytes.now) old.place (step_of (pos_of old) (rest_of old))
  pub stands : pos_of new ≡ pos_after (pos_of old) (step_of (pos_of old) (rest_of old))
  pub bytes : new.bytes ≡ old.bytes
