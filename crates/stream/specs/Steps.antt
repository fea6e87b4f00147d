-- The checks of one record in their order: what a step reads and where the reader then stands, or
-- the first cause that applies. Rests on the states and their rules, on numbers in bytes and on
-- faults.
use Rattle.std.specs.Prelude.{ℕ, ◌+◌, ◌-◌, Bool, if◌then◌else◌, ◌&&◌, List, length, Ok, Err, Result, ◌==◌, nat_le, nat_lt, slice_index}
use Rattle.std.specs.List.{list_all}
use Rattle.stream.specs.Bytes.{le, field}
use Rattle.stream.specs.Rule.{State, from_rule, to_rule, size_rule, late_rule}
use Rattle.stream.specs.declared.limits.TheConstants.{LARGEST_SIZE, LONGEST_NAME, MOST_RECORDS, NAME_HEAD, RANGE_HEAD, SIZE_HEAD}
use Rattle.stream.specs.declared.records.Span.{Span}
use Rattle.stream.specs.declared.records.Record.{Record}
use Rattle.stream.specs.declared.records.Record.TheVariants.{From, To, Size, Write, Zero, End}
use Rattle.fault.specs.Fault.{and_then, fault, cause_number}
use Rattle.fault.specs.declared.fault.Fault.{Fault}
use Rattle.fault.specs.declared.cause.Cause.{Cause}
use Rattle.fault.specs.declared.cause.Cause.TheVariants as causes

-- the place of the next record, and what the records before it say: the state, the size of the
-- image, the end of the last data record, and how many data records there were
pub record Pos : Type 0 where
  pub place : ℕ
  pub state : State
  pub size : ℕ
  pub end : ℕ
  pub count : ℕ

-- a byte that a name may have
abbrev pub printable_byte : ℕ → Bool
printable_byte b = nat_le 33 b && nat_le b 126

abbrev pub every_printable : List ℕ → Bool
every_printable bytes = list_all printable_byte bytes

-- the checks of a name of n bytes in the record that begins the list
abbrev pub name_by : List ℕ → ℕ → Result ℕ Cause
name_by rest n =
    if nat_lt (length rest) NAME_HEAD then Err causes.Cut
    else if n == 0 then Err causes.BadName
    else if nat_lt LONGEST_NAME n then Err causes.BadName
    else if nat_lt (length rest) (NAME_HEAD + n) then Err causes.Cut
    else if every_printable (field rest NAME_HEAD n) then Ok n
    else Err causes.BadName

abbrev pub name_length_of : List ℕ → Result ℕ Cause
name_length_of rest = name_by rest (le (field rest 1 4))

-- the checks of a size n
abbrev pub size_by : List ℕ → ℕ → Result ℕ Cause
size_by rest n =
    if nat_lt (length rest) SIZE_HEAD then Err causes.Cut
    else if nat_lt LARGEST_SIZE n then Err causes.TooLarge
    else Ok n

abbrev pub size_of : List ℕ → Result ℕ Cause
size_of rest = size_by rest (le (field rest 1 8))

-- the checks of a data record of n bytes at an offset
abbrev pub range_by : Pos → List ℕ → ℕ → ℕ → Result (ℕ × ℕ) Cause
range_by p rest offset n =
    if nat_lt (MOST_RECORDS - 1) p.count then Err causes.TooManyRecords
    else if nat_lt (length rest) RANGE_HEAD then Err causes.Cut
    else if n == 0 then Err causes.BadRange
    else if nat_lt p.size (offset + n) then Err causes.BadRange
    else if nat_lt offset p.end then Err causes.Overlap
    else Ok (offset, n)

abbrev pub data_range_of : Pos → List ℕ → Result (ℕ × ℕ) Cause
data_range_of p rest = range_by p rest (le (field rest 1 8)) (le (field rest 9 8))

-- the same of a record with payload, which has to be there
abbrev pub payload_range_of : Pos → List ℕ → Result (ℕ × ℕ) Cause
payload_range_of p rest =
    and_then (data_range_of p rest) (λ q. if nat_lt (length rest) (RANGE_HEAD + q.1) then Err causes.Cut else Ok q)

-- a name's part of a stream
abbrev pub span : ℕ → ℕ → Span
span place n = record { place = place; length = n }

-- one record of each tag, where the state that follows is known: what it is and where the reader
-- then stands, or the first cause that applies. A name becomes a record of its kind.
abbrev pub name_step : (Span → Record) → Pos → List ℕ → State → Result (Record × Pos) Cause
name_step kind p rest s = and_then (name_length_of rest) (λ n. Ok (kind (span (p.place + NAME_HEAD) n), record p { place = p.place + NAME_HEAD + n; state = s }))

abbrev pub from_step : Pos → List ℕ → State → Result (Record × Pos) Cause
from_step p rest s = name_step From p rest s

abbrev pub to_step : Pos → List ℕ → State → Result (Record × Pos) Cause
to_step p rest s = name_step To p rest s

abbrev pub size_step : Pos → List ℕ → State → Result (Record × Pos) Cause
size_step p rest s = and_then (size_of rest) (λ n. Ok (Size n, record p { place = p.place + SIZE_HEAD; state = s; size = n }))

abbrev pub data_step : Pos → List ℕ → State → Result (Record × Pos) Cause
data_step p rest s = and_then (payload_range_of p rest) (λ q. Ok (Write q.0 q.1 (p.place + RANGE_HEAD), record p { place = p.place + RANGE_HEAD + q.1; state = s; end = q.0 + q.1; count = p.count + 1 }))

abbrev pub zeros_step : Pos → List ℕ → State → Result (Record × Pos) Cause
zeros_step p rest s = and_then (data_range_of p rest) (λ q. Ok (Zero q.0 q.1, record p { place = p.place + RANGE_HEAD; state = s; end = q.0 + q.1; count = p.count + 1 }))

abbrev pub end_step : Pos → State → Result (Record × Pos) Cause
end_step p s = Ok (End, record p { place = p.place + 1; state = s })

-- one record with its tag: f, t, s, w, z, e or none of them
abbrev pub record_of : Pos → List ℕ → ℕ → Result (Record × Pos) Cause
record_of p rest tag =
    if tag == 102 then and_then (from_rule p.state) (λ s. from_step p rest s)
    else if tag == 116 then and_then (to_rule p.state) (λ s. to_step p rest s)
    else if tag == 115 then and_then (size_rule p.state) (λ s. size_step p rest s)
    else if tag == 119 then and_then (late_rule p.state) (λ s. data_step p rest s)
    else if tag == 122 then and_then (late_rule p.state) (λ s. zeros_step p rest s)
    else if tag == 101 then and_then (late_rule p.state) (λ s. end_step p s)
    else Err causes.UnknownTag

-- the record that begins the list
abbrev pub step_of : Pos → List ℕ → Result (Record × Pos) Cause
step_of p rest = if nat_lt 0 (length rest) then record_of p rest (slice_index rest 0) else Err causes.Cut

-- the answer of a step, and where the reader stands after it
abbrev pub step_answer : {A : Type 0} → Result (A × Pos) Cause → Result A Cause
step_answer (Ok q) = Ok q.0
step_answer (Err c) = Err c

abbrev pub pos_after : {A : Type 0} → Pos → Result (A × Pos) Cause → Pos
pos_after p (Ok q) = q.1
pos_after p (Err c) = p

-- the fault of a record: its place is the tag's, of a cut stream the whole length
abbrev pub fault_at : ℕ → ℕ → Cause → Fault
fault_at total place c = fault c (if cause_number c == 2 then total else place)
