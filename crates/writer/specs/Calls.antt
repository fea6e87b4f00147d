-- What the writer's calls return, and what the buffer then holds. Rests on the stream format, on
-- the checks of one record, on where a reader stands after it, and on faults.
use Rattle.std.specs.Prelude.{◌≡◌, ℕ, ◌+◌, ◌≤◌, Bool, if◌then◌else◌, ◌&&◌, ◌||◌, List, length, is_ok, Ok, Err, Result, ◌==◌, nat_le, nat_lt}
use Rattle.stream.specs.Bytes.{buffer_with}
use Rattle.stream.specs.Records.{Content, data_at, zeros_at, record_bytes, offset_of}
use Rattle.stream.specs.Steps.{Pos, every_printable}
use Rattle.stream.specs.Wellformed.{pos_past, GoodRange}
use Rattle.stream.specs.Rule.{Data}
use Rattle.stream.specs.declared.limits.TheConstants.{MOST_RECORDS, LONGEST_NAME, LARGEST_SIZE}
use Rattle.writer.specs.Fields.{opening, end_record}
use Rattle.writer.specs.declared.heading.Heading.{Heading}
use Rattle.writer.specs.declared.opened.Opened.{Opened}
use Rattle.writer.specs.declared.recording.Recording.{Recording}
use Rattle.writer.specs.declared.ended.Ended.{Ended}
use Rattle.writer.specs.declared.refused.Refused.{Refused}
use Rattle.fault.specs.Fault.{and_then, fault, err_by}
use Rattle.fault.specs.declared.fault.Fault.{Fault}
use Rattle.fault.specs.declared.cause.Cause.{Cause}
use Rattle.fault.specs.declared.cause.Cause.TheVariants as causes

-- whether a name may stand in a stream: it is neither empty nor too long, and each byte is
-- printable
abbrev pub good_name : List ℕ → Bool
good_name name =
    nat_lt 0 (length name) && (nat_le (length name) LONGEST_NAME && every_printable name)

-- the first cause that applies to names and a size. An empty from name stands for none
abbrev pub names_check : List ℕ → List ℕ → ℕ → Result (Unit {0}) Cause
names_check from to size =
    if (length from == 0 || good_name from) && good_name to
    then (if nat_lt LARGEST_SIZE size then Err causes.TooLarge else Ok tt)
    else Err causes.BadName

-- the first cause that applies to a data record of n bytes at an offset
abbrev pub range_check : Pos → ℕ → ℕ → Result (Unit {0}) Cause
range_check p offset n =
    if nat_le MOST_RECORDS p.count then Err causes.TooManyRecords
    else if n == 0 then Err causes.BadRange
    else if nat_lt p.size (offset + n) then Err causes.BadRange
    else if nat_lt offset p.end then Err causes.Overlap
    else Ok tt

-- a place up to which a buffer of `room` bytes reaches, or the fault of a buffer that is too short
abbrev pub place_within : ℕ → ℕ → Result ℕ Fault
place_within room place =
    if nat_lt room place then Err (fault causes.ShortBuffer place) else Ok place

-- the place after names and size, or the fault, which has place 0 unless the buffer is too short
abbrev pub place_after_names : ℕ → List ℕ → List ℕ → ℕ → Result ℕ Fault
place_after_names room from to size =
    and_then (err_by (λ c. fault c 0) (names_check from to size))
    (λ _. place_within room (length (opening from to size)))

-- the place after a data record of n bytes at an offset, or the fault. The record takes `taken`
-- bytes of the stream
abbrev pub place_after_record : Pos → ℕ → ℕ → ℕ → ℕ → Result ℕ Fault
place_after_record p room offset n taken =
    and_then (err_by (λ c. fault c p.place) (range_check p offset n))
    (λ _. place_within room (p.place + taken))

-- the bytes of a heading
abbrev pub opening_of : Heading → List ℕ
opening_of h = opening h.from.now h.to.now h.size

-- the length of the heading made of names and a size that passed the checks
abbrev pub heading_length : Result Heading Fault → Result ℕ Fault
heading_length (Ok h) = Ok (length (opening_of h))
heading_length (Err f) = Err f

-- the heading made of names and a size that passed the checks: it has these, and the buffer has
-- room for it
pub record Opens (room : ℕ) (from to : List ℕ) (size : ℕ) (h : Heading) : Type 0 where
  pub from_is : h.from.now ≡ from
  pub to_is : h.to.now ≡ to
  pub size_is : h.size ≡ size
  pub reached : length (opening from to size) ≤ room
  pub sized : size ≤ LARGEST_SIZE

-- how many bytes of the image a record is about. Metadata is about none
abbrev pub extent : Content → ℕ
extent (data_at offset bytes) = length bytes
extent (zeros_at offset n) = n
extent meta = 0

-- where a reader of the bytes written so far stands, ready for data
abbrev pub writer_pos : Recording → Pos
writer_pos w = record { place = w.place; state = Data; size = w.size; end = w.end; count = w.count }

-- that position just after names and size
abbrev pub pos_after_names : List ℕ → List ℕ → ℕ → Pos
pos_after_names from to size =
    record { place = length (opening from to size); state = Data; size = size; end = 0; count = 0 }

-- the place of a writer after a data record that was admitted
abbrev pub recording_place : Result Recording Fault → Result ℕ Fault
recording_place (Ok w) = Ok w.place
recording_place (Err f) = Err f

-- that writer: the record's range is good, it stands after the record, and the buffer reaches there
pub record Follows (p : Pos) (room offset n taken : ℕ) (w : Recording) : Type 0 where
  pub good : GoodRange p offset n
  pub stands : writer_pos w ≡ record p { place = p.place + taken; state = Data; end = offset + n; count = p.count + 1 }
  pub reached : w.place ≤ room

-- what a call returns, with both writers replaced by their numbers: two writers that are equal as
-- structs would also have equal proofs in their ghost fields
abbrev pub result_numbers : {A B M N : Type 0} → (A → M) → (B → N) → Result A (Refused B) → Result M (N × Fault)
result_numbers after before (Ok w) = Ok (after w)
result_numbers after before (Err e) = Err (before e.writer, e.fault)

-- what it has to return: the next writer, or the writer as it was with the fault
abbrev pub call_answer : {M N : Type 0} → M → N → Result ℕ Fault → Result M (N × Fault)
call_answer after before (Ok place) = Ok after
call_answer after before (Err f) = Err (before, f)

-- a call of names on a buffer that held xs and now holds ys
pub record Named (xs from to : List ℕ) (size : ℕ) (r : Result Recording (Refused Opened)) (ys : List ℕ) : Type 0 where
  pub answer : result_numbers writer_pos (λ w. w.place) r
      ≡ call_answer (pos_after_names from to size) 0 (place_after_names (length xs) from to size)
  pub buffer : ys ≡ (if is_ok r then buffer_with xs 0 (opening from to size) else xs)

-- a call of write or zero for the data record c
pub record Recorded (w : Recording) (xs : List ℕ) (c : Content) (r : Result Recording (Refused Recording)) (ys : List ℕ) : Type 0 where
  pub answer : result_numbers writer_pos writer_pos r
      ≡ call_answer (pos_past (writer_pos w) c Data) (writer_pos w)
      (place_after_record (writer_pos w) (length xs) (offset_of c) (extent c) (length (record_bytes c)))
  pub buffer : ys ≡ (if is_ok r then buffer_with xs w.place (record_bytes c) else xs)

-- a call of end
pub record Finished (w : Recording) (xs : List ℕ) (r : Result Ended (Refused Recording)) (ys : List ℕ) : Type 0 where
  pub answer : result_numbers (λ d. d.length) writer_pos r
      ≡ call_answer (w.place + 1) (writer_pos w) (place_within (length xs) (w.place + 1))
  pub buffer : ys ≡ (if is_ok r then buffer_with xs w.place end_record else xs)
