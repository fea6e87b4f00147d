-- What the steps of a call promise each other: room for a new entry, and that a call may change the
-- shelf. Rests on the outcomes of the calls, and on the table and its entries.
use Rattle.std.specs.Prelude.{ℕ, ◌+◌, ◌<◌, ◌≤◌, List, ◌++◌, length, take, drop, Ok, Err, Result}
use Rattle.fault.specs.Fault.{and_then}
use Rattle.fault.specs.declared.fault.Fault.{Fault}
use Rattle.stream.specs.Difference.{Difference, join_difference, canonical_bytes}
use Rattle.table.specs.declared.table.TheConstants.{MOST_ENTRIES}
use Rattle.table.specs.Tables.{Table, unite_rows}
use Rattle.shelf.specs.Entries.{entry}
use Rattle.shelf.specs.Outcomes.{CallOutcome, outcome, united_fill, united_bytes}

-- a shelf with room for the canonical stream of a difference as a new entry
pub record HasRoom (t : Table) (bytes : List ℕ) (d : Difference) : Type 0 where
  pub few : length t.rows < MOST_ENTRIES
  pub room : t.fill + length (canonical_bytes d) ≤ length bytes

-- entries i and i + 1 may become one, of the first n bytes of the work buffer
pub record MayUnite (t : Table) (bytes : List ℕ) (i : ℕ) (work : List ℕ) (n : ℕ) : Type 0 where
  pub two : i + 1 < length t.rows
  pub reaches : t.fill ≤ length bytes
  pub fits : n ≤ length work
  pub room : united_fill t i n ≤ length bytes

-- what comes of a join that is written to the work buffer, or refused
abbrev pub united_outcome : Table → List ℕ → ℕ → List ℕ → Result ℕ Fault → CallOutcome
united_outcome t bytes i work (Ok n) = record (outcome (Ok n) (unite_rows t i n) (united_bytes t bytes i (take n work))) { buffer = work }
united_outcome t bytes i work (Err f) = record (outcome (Err f) t bytes) { buffer = work }

-- the difference of two neighbours joined, or the first fault that reading them gives
abbrev pub neighbours_join : Table → List ℕ → ℕ → Result Difference Fault
neighbours_join t bytes i = and_then (entry t bytes i) (λ d. and_then (entry t bytes (i + 1)) (λ e. Ok (join_difference d e)))

-- writing the canonical stream of a difference into a buffer, if the checks before did not refuse
-- it: its length, and what the buffer then holds
abbrev pub stream_answer : Result Difference Fault → Result ℕ Fault
stream_answer r = and_then r (λ d. Ok (length (canonical_bytes d)))

abbrev pub stream_buffer : List ℕ → Result Difference Fault → List ℕ
stream_buffer buffer (Ok d) = canonical_bytes d ++ drop (length (canonical_bytes d)) buffer
stream_buffer buffer (Err f) = buffer

-- entry 0 may leave
pub record MayLeave (t : Table) (bytes : List ℕ) : Type 0 where
  pub one : 0 < length t.rows
  pub reaches : t.fill ≤ length bytes
