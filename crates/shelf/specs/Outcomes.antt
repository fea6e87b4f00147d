-- The calls of a shelf: for each call, the checks in their order, and its outcome: what it answers,
-- and what the table, the bytes, the image and the buffer then hold. A refusal changes nothing, but
-- for the image where the store stops a settle. Rests on faults, on the table and its entries, on
-- what a stream means, on the limit of joins, on which names a writer takes, on buffers, on the
-- list's text, on the images of a store and on what applying records does.
use Rattle.std.specs.Prelude.{ℕ, ◌+◌, not, ◌||◌, List, [], ◌++◌, length, drop, Ok, Err, Result, ◌==◌, nat_le, nat_lt}
use Rattle.fault.specs.Fault.{fault, fault_by, at_layer, in_entry, and_then}
use Rattle.fault.specs.declared.cause.Cause.TheVariants.{BadName, NamesDiffer, ShortBuffer, ShelfFull, NameTaken, Damaged}
use Rattle.fault.specs.declared.fault.Fault.{Fault}
use Rattle.fault.specs.declared.layer.Layer.TheVariants.{Stream, Join, Shelf}
use Rattle.stream.specs.Buffers.{written_answer}
use Rattle.stream.specs.Verdict.{same}
use Rattle.stream.specs.Meaning.{ranges}
use Rattle.stream.specs.Difference.{Difference, meaning, join_difference, canonical_records, canonical_bytes}
use Rattle.writer.specs.Calls.{good_name}
use Rattle.join.specs.Plans.{within_limit}
use Rattle.listing.specs.Text.{listing}
use Rattle.store.specs.Stores.{Images, Outcome}
use Rattle.apply.specs.Applies.{apply_records}
use Rattle.table.specs.declared.table.TheConstants.{MOST_ENTRIES}
use Rattle.table.specs.Tables.{Table, empty_table, end_of, row_at, next_name, is_taken, fill_after, add_row, unite_rows, drop_row}
use Rattle.shelf.specs.Entries.{refuse_if, is_short, are_there, entry, bytes_with}

-- what a call answers, and what it leaves. The answer is a number, 0 where the call returns none,
-- or the refusal. Image and buffer are what the base image and the buffer that the call got then
-- hold, and empty where it got none.
pub record CallOutcome : Type 0 where
  pub answer : Result ℕ Fault
  pub table : Table
  pub bytes : List ℕ
  pub image : List ℕ
  pub buffer : List ℕ

-- the outcome of a call that gets neither an image nor a buffer; the other calls add them by name
abbrev pub outcome : Result ℕ Fault → Table → List ℕ → CallOutcome
outcome answer t bytes = record { answer = answer; table = t; bytes = bytes; image = []; buffer = [] }

-- the outcome of a call with a plan: what its checks found out, or their refusal
abbrev pub outcome_by : {A : Type 0} → Result A Fault → (Fault → CallOutcome) → (A → CallOutcome) → CallOutcome
outcome_by (Ok a) refused planned = planned a
outcome_by (Err f) refused planned = refused f

-- the answer of a call that returns nothing
abbrev pub done_count : Result (Unit {0}) Fault → Result ℕ Fault
done_count (Ok u) = Ok 0
done_count (Err f) = Err f

-- make: an empty shelf beside a base image whose snapshot has this name; the empty name stands for
-- the state before the first snapshot
abbrev pub make_answer : List ℕ → Result Table Fault
make_answer name = refuse_if (not (length name == 0 || good_name name)) (at_layer Shelf (fault BadName 0)) (Ok (empty_table name))

-- put: a difference that may be added, if it leads on to a new name and there is room in the table
-- and for its stream
abbrev pub put_fits : Table → List ℕ → Difference → Result Difference Fault
put_fits t bytes d =
    refuse_if (not (same d.from (next_name t))) (at_layer Shelf (fault NamesDiffer 0))
    (refuse_if (nat_le MOST_ENTRIES (length t.rows)) (fault ShelfFull 0)
    (refuse_if (is_taken d.to t) (fault NameTaken 0)
    (refuse_if (nat_lt (length bytes) (t.fill + length (canonical_bytes d))) (at_layer Shelf (fault ShortBuffer (t.fill + length (canonical_bytes d))))
    (Ok d))))

-- the difference of a stream that may be added; each fault has the number that the entry would have
-- had
unfoldable pub put_plan : Table → List ℕ → List ℕ → Result Difference Fault
put_plan t bytes stream =
    fault_by (in_entry (length t.rows)) (refuse_if (is_short t bytes) (fault Damaged 0) (and_then (meaning stream) (put_fits t bytes)))

-- its canonical stream becomes the last entry, at the fill
abbrev pub added_outcome : Table → List ℕ → Difference → CallOutcome
added_outcome t bytes d =
    outcome (Ok 0) (add_row t (length (canonical_bytes d)) d.from d.to) (bytes_with t.fill bytes t.fill t.fill (canonical_bytes d))

abbrev pub put_outcome : Table → List ℕ → List ℕ → CallOutcome
put_outcome t bytes stream = outcome_by (put_plan t bytes stream) (λ f. outcome (Err f) t bytes) (added_outcome t bytes)

-- the fill after entries i and i + 1 became one of n bytes
abbrev pub united_fill : Table → ℕ → ℕ → ℕ
united_fill t i n = fill_after t.fill (row_at t i).place (end_of (row_at t (i + 1))) n

-- a joined stream of n bytes for which there is room in the work buffer and, in the place of
-- entries i and i + 1, on the shelf
abbrev pub finds_room : Table → List ℕ → ℕ → List ℕ → ℕ → Result ℕ Fault
finds_room t bytes i work n =
    refuse_if (nat_lt (length work) n) (at_layer Join (fault ShortBuffer n))
    (refuse_if (nat_lt (length bytes) (united_fill t i n)) (at_layer Shelf (fault ShortBuffer (united_fill t i n))) (Ok n))

-- join: the difference of entries i and i + 1 joined, if it has at most 512 ranges and its stream
-- fits into the work buffer and onto the shelf
abbrev pub join_fits : Table → List ℕ → ℕ → List ℕ → Difference → Result Difference Fault
join_fits t bytes i work d =
    and_then (within_limit d (length (canonical_bytes d))) (λ n. and_then (finds_room t bytes i work n) (λ _. Ok d))

unfoldable pub join_plan : Table → List ℕ → ℕ → List ℕ → Result Difference Fault
join_plan t bytes i work =
    and_then (are_there t bytes i 1) (λ _.
    and_then (entry t bytes i) (λ d.
    and_then (entry t bytes (i + 1)) (λ e.
    fault_by (in_entry i) (join_fits t bytes i work (join_difference d e)))))

-- entries i and i + 1 as one entry with these bytes
abbrev pub united_bytes : Table → List ℕ → ℕ → List ℕ → List ℕ
united_bytes t bytes i stream = bytes_with t.fill bytes (row_at t i).place (end_of (row_at t (i + 1))) stream

-- the joined stream is in the first bytes of the work buffer, and takes the place of the two
-- entries; the answer is its length
abbrev pub joined_outcome : Table → List ℕ → ℕ → List ℕ → List ℕ → CallOutcome
joined_outcome t bytes i work stream =
    record (outcome (Ok (length stream)) (unite_rows t i (length stream)) (united_bytes t bytes i stream)) {
      buffer = stream ++ drop (length stream) work;
    }

abbrev pub join_outcome : Table → List ℕ → ℕ → List ℕ → CallOutcome
join_outcome t bytes i work =
    outcome_by (join_plan t bytes i work) (λ f. record (outcome (Err f) t bytes) { buffer = work })
    (λ d. joined_outcome t bytes i work (canonical_bytes d))

-- settle: entry 0, if it may be applied
unfoldable pub settle_plan : Table → List ℕ → Result Difference Fault
settle_plan t bytes = and_then (are_there t bytes 0 0) (λ _. entry t bytes 0)

-- what comes of the store's answer, and of the image that it leaves: once all was applied the entry
-- leaves, and the others move to the front; where the store stopped, the entry stays
abbrev pub applied_outcome : Table → List ℕ → List ℕ → Result (Unit {0}) Fault → CallOutcome
applied_outcome t bytes image (Ok u) = record (outcome (Ok 0) (drop_row t) (bytes_with t.fill bytes 0 (end_of (row_at t 0)) [])) { image = image }
applied_outcome t bytes image (Err f) = record (outcome (Err f) t bytes) { image = image }

-- the store's outcome of the canonical records of entry 0 in turn
abbrev pub apply_entry : Images → List ℕ → Difference → Outcome
apply_entry holds image d = (fault_by (in_entry 0) (apply_records holds image (canonical_records d)).0, (apply_records holds image (canonical_records d)).1)

abbrev pub settle_outcome : Images → Table → List ℕ → List ℕ → CallOutcome
settle_outcome holds t bytes image =
    outcome_by (settle_plan t bytes) (λ f. record (outcome (Err f) t bytes) { image = image })
    (λ d. applied_outcome t bytes (apply_entry holds image d).1 (apply_entry holds image d).0)

-- list: the text of the ranges of entry i, if it fits into the buffer
unfoldable pub list_plan : Table → List ℕ → ℕ → List ℕ → Result (List ℕ) Fault
list_plan t bytes i text =
    and_then (are_there t bytes i 0) (λ _.
    and_then (entry t bytes i) (λ d.
    fault_by (in_entry i) (and_then (written_answer Stream text (listing (ranges d.cells))) (λ _. Ok (listing (ranges d.cells))))))

-- it is in the first bytes of the buffer; the answer is its length
abbrev pub list_outcome : Table → List ℕ → ℕ → List ℕ → CallOutcome
list_outcome t bytes i text =
    outcome_by (list_plan t bytes i text) (λ f. record (outcome (Err f) t bytes) { buffer = text })
    (λ written. record (outcome (Ok (length written)) t bytes) { buffer = written ++ drop (length written) text })
