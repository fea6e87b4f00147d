-- Entries in the shelf's bytes: reading one, and bytes that take the place of others. Rests on the
-- table, on what a stream means, and on faults.
use Rattle.std.specs.Prelude.{ℕ, ◌+◌, ◌-◌, Bool, if◌then◌else◌, not, ◌&&◌, List, ◌++◌, map, length, take, drop, Ok, Err, Result, nat_le, nat_lt}
use Rattle.fault.specs.Fault.{fault, fault_by, in_entry, and_then}
use Rattle.fault.specs.declared.cause.Cause.TheVariants.{NoEntry, Damaged}
use Rattle.fault.specs.declared.fault.Fault.{Fault}
use Rattle.stream.specs.Bytes.{field}
use Rattle.stream.specs.Verdict.{same}
use Rattle.stream.specs.Difference.{Difference, meaning, canonical_bytes}
use Rattle.table.specs.Tables.{Row, Table, row_at, fill_after}

-- a check: refused if the test says so, and else what follows
abbrev pub refuse_if : {A : Type 0} → Bool → Fault → Result A Fault → Result A Fault
refuse_if test f next = if test then Err f else next

-- the bytes end before the fill
abbrev pub is_short : Table → List ℕ → Bool
is_short t bytes = nat_lt (length bytes) t.fill

-- entry i and `more` entries after it are there, in bytes that reach the fill
abbrev pub are_there : Table → List ℕ → ℕ → ℕ → Result (Unit {0}) Fault
are_there t bytes i more =
    refuse_if (nat_le (length t.rows) (i + more)) (in_entry i (fault NoEntry i)) (refuse_if (is_short t bytes) (in_entry i (fault Damaged 0)) (Ok tt))

-- an entry's part of the bytes, and the streams of all entries in order
abbrev pub slice : List ℕ → Row → List ℕ
slice bytes r = field bytes r.place r.length

abbrev pub shelf_streams : Table → List ℕ → List (List ℕ)
shelf_streams t bytes = map (slice bytes) t.rows

-- a stream is the canonical one of its difference, and has the names of its row
abbrev pub is_whole : Row → List ℕ → Difference → Bool
is_whole r stream d = same (canonical_bytes d) stream && (same d.from r.from && same d.to r.to)

abbrev pub read_row : Row → List ℕ → Result Difference Fault
read_row r stream = and_then (meaning stream) (λ d. refuse_if (not (is_whole r stream d)) (fault Damaged 0) (Ok d))

-- the difference of entry i; or its stream's fault, whose place counts from the entry's first byte;
-- or damage
unfoldable pub entry : Table → List ℕ → ℕ → Result Difference Fault
entry t bytes i = fault_by (in_entry i) (read_row (row_at t i) (slice bytes (row_at t i)))

-- new bytes in the place of those from start up to end: what came after them, up to the fill,
-- follows; bytes past the new fill are as they were
abbrev pub bytes_with : ℕ → List ℕ → ℕ → ℕ → List ℕ → List ℕ
bytes_with fill bytes start end new =
    take start bytes ++ (new ++ (field bytes end (fill - end) ++ drop (fill_after fill start end (length new)) bytes))
