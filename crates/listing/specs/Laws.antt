-- What the list of a stream shows: the longest runs, and nothing of the payload. Rests on Lists, on
-- what a stream means, on the records and which of them are good, on where reading begins, and on
-- overlay's runs.
use Rattle.std.specs.Prelude.{◌≡◌, ℕ, ◌+◌, ◌^◌, ◌<◌, ◌≤◌, ◌⊎◌, List, [], ◌∷◌, ◌++◌, length, drop, Some, None, Option, ◌≢◌, slice_index_or}
use Rattle.std.specs.Option.{option_map}
use Rattle.std.specs.List.{AllByRecursion}
use Rattle.overlay.specs.declared.runs.Run.{Run}
use Rattle.overlay.specs.declared.ranges.RangeMark.{RangeMark}
use Rattle.overlay.specs.Runs.{run_end, Rising}
use Rattle.stream.specs.Bytes.{le}
use Rattle.stream.specs.Records.{Content, data_at, records_bytes, header}
use Rattle.stream.specs.Steps.{Pos}
use Rattle.stream.specs.Verdict.{start}
use Rattle.stream.specs.Wellformed.{Leads}
use Rattle.stream.specs.Meaning.{Cell, mark_of, ranges}
use Rattle.listing.specs.Lists.{stream_text}

-- the kind of a position: zeroed, written, or None where it is kept or past the size
abbrev pub kind_at : List (Option Cell) → ℕ → Option RangeMark
kind_at ds p = option_map mark_of (slice_index_or ds p None)

-- a run of positions of one kind that is as long as it can be: the positions just before and just
-- after it are of another kind
pub record LongestRun (kinds : ℕ → Option RangeMark) (r : Run RangeMark) : Type 0 where
  pub alike : (p : ℕ) → r.offset ≤ p → p < run_end r → kinds p ≡ Some r.mark
  pub stops : kinds (run_end r) ≡ Some r.mark → ⊥
  pub starts : (p : ℕ) → p + 1 ≡ r.offset → kinds p ≢ Some r.mark

-- a position lies in no run
abbrev pub Missed : ℕ → Run RangeMark → Type 0
Missed p r = (p < r.offset) ⊎ (run_end r ≤ p)

-- the longest runs of a difference, in rising order. A position in none of them is kept
pub record LongestRuns (ds : List (Option Cell)) (rs : List (Run RangeMark)) : Type 0 where
  pub rising : Rising 0 rs (length ds)
  pub longest : AllByRecursion (LongestRun (kind_at ds)) rs
  pub elsewhere : (p : ℕ) → AllByRecursion (Missed p) rs → kind_at ds p ≡ None

-- the ranges of a difference are its longest runs
abbrev pub RangesAreLongest : Type 0
RangesAreLongest = (ds : List (Option Cell)) → length ds < 2 ^ 64 → LongestRuns ds (ranges ds)

-- records that differ at most in the bytes of their payload
pub data Alike : Content → Content → Type 0 where
  same : {c : Content} → Alike c c
  payload : {o : ℕ} {bs cs : List ℕ} → length bs ≡ length cs → Alike (data_at o bs) (data_at o cs)

pub data AllAlike : List Content → List Content → Type 0 where
  none : AllAlike [] []
  more : {c d : Content} {cs ds : List Content} → Alike c d → AllAlike cs ds → AllAlike (c ∷ cs) (d ∷ ds)

-- What is left of two streams: the same bytes, or the bytes of a data record, whole, cut off or
-- refused, which differ in its payload alone. Its fields take 16 bytes after the tag, and the last
-- 8 of these are the length of its payload.
pub data RestAlike : List ℕ → List ℕ → Type 0 where
  same_rest : {rest : List ℕ} → RestAlike rest rest
  next_payload : (fields bs cs more : List ℕ) → length fields ≡ 16 → length bs ≡ length cs → length bs ≤ le (drop 8 fields)
      → RestAlike (119 ∷ (fields ++ (bs ++ more))) (119 ∷ (fields ++ (cs ++ more)))

-- two streams that begin with good records, and differ in bytes of payload alone, these and that of
-- the record after them, are listed alike, or refused alike
abbrev pub BlindToPayload : Type 0
BlindToPayload =
    (cs ds : List Content) (q : Pos) (rest others : List ℕ) → AllAlike cs ds → Leads start cs q → RestAlike rest others
    → stream_text (header ++ (records_bytes cs ++ rest)) ≡ stream_text (header ++ (records_bytes ds ++ others))
