-- Reading: the records of a stream, or its first fault. Rests on records, on the checks of one
-- record and on faults.
use Rattle.std.specs.Prelude.{ℕ, zero, suc, ◌-◌, Bool, true, false, if◌then◌else◌, ◌&&◌, List, [], ◌∷◌, length, take, drop, Ok, Err, Result, ◌==◌, nat_lt}
use Rattle.stream.specs.declared.limits.TheConstants.{NAME_HEAD, RANGE_HEAD}
use Rattle.stream.specs.Bytes.{field}
use Rattle.stream.specs.Records.{Content, from_name, to_name, image_size, data_at, zeros_at, header}
use Rattle.stream.specs.Steps.{Pos, step_of, fault_at}
use Rattle.stream.specs.Rule.{meta}
use Rattle.stream.specs.declared.records.Record.{Record}
use Rattle.stream.specs.declared.records.Record.TheVariants.{From, To, Size, Write, Zero, End}
use Rattle.fault.specs.Fault.{fault}
use Rattle.fault.specs.declared.fault.Fault.{Fault}
use Rattle.fault.specs.declared.cause.Cause.{Cause}
use Rattle.fault.specs.declared.cause.Cause.TheVariants as causes

-- what follows a record, with the record before it
abbrev pub record_before : Content → Result (List Content) Fault → Result (List Content) Fault
record_before c (Ok cs) = Ok (c ∷ cs)
record_before c (Err f) = Err f

-- what a record that was read comes to, with what follows it
abbrev pub step_result : Result (List Content) Fault → ℕ → List ℕ → Record → Pos → Result (List Content) Fault
step_result follow total rest (From s) q = record_before (from_name (field rest NAME_HEAD s.length)) follow
step_result follow total rest (To s) q = record_before (to_name (field rest NAME_HEAD s.length)) follow
step_result follow total rest (Size n) q = record_before (image_size n) follow
step_result follow total rest (Write offset n place) q = record_before (data_at offset (field rest RANGE_HEAD n)) follow
step_result follow total rest (Zero offset n) q = record_before (zeros_at offset n) follow
step_result follow total rest End q = if nat_lt q.place total then Err (fault causes.Trailing q.place) else Ok []

-- the records from a step on: the record that it read and those after it, or its fault
abbrev pub reads_after : (Pos → List ℕ → Result (List Content) Fault) → ℕ → ℕ → List ℕ → Result (Record × Pos) Cause → Result (List Content) Fault
reads_after more total place rest (Ok s) = step_result (more s.1 (drop (s.1.place - place) rest)) total rest s.0 s.1
reads_after more total place rest (Err c) = Err (fault_at total place c)

-- the records of the rest of a stream of `total` bytes, or the first fault. The first argument is
-- above the length of the rest.
abbrev pub reads : ℕ → ℕ → Pos → List ℕ → Result (List Content) Fault
reads zero total p rest = Err (fault causes.Cut total)
reads (suc k) total p rest = reads_after (reads k total) total p.place rest (step_of p rest)

-- where a reader stands after the header
abbrev pub start : Pos
start = record { place = 12; state = meta false false false; size = 0; end = 0; count = 0 }

-- whether two lists of bytes are the same
abbrev pub same : List ℕ → List ℕ → Bool
same [] [] = true
same (x ∷ xs) (y ∷ ys) = x == y && same xs ys
same xs ys = false

-- the records of a stream, or its fault
abbrev pub verdict : List ℕ → Result (List Content) Fault
verdict xs = if same (take 12 xs) header then reads (suc (length xs)) (length xs) start (drop 12 xs) else Err (fault causes.Header 0)

-- yes or the fault
abbrev pub check_answer : {A : Type 0} → Result A Fault → Result (Unit {0}) Fault
check_answer (Ok cs) = Ok tt
check_answer (Err f) = Err f
