-- A stream that was read, its parts, and the steps that these come to. Rests on the stream's parts
-- and what they say at their places, on reading, on the steps, on Applies, on overlay's runs and on
-- faults.
use Rattle.std.specs.Prelude.{◌≡◌, ℕ, ◌≤◌, Bool, List, ◌∷◌, map, length, take, drop, Ok, Err, Result, nat_lt}
use Rattle.std.specs.List.{prefix_len}
use Rattle.fault.specs.declared.fault.Fault.{Fault}
use Rattle.overlay.specs.declared.runs.Run.{Run}
use Rattle.overlay.specs.declared.ranges.RangeMark.{RangeMark}
use Rattle.overlay.specs.declared.payloads.PayloadMark.{PayloadMark}
use Rattle.overlay.specs.declared.payloads.Side.{Side}
use Rattle.overlay.specs.Runs.{Rising}
use Rattle.store.specs.Stores.{Images, Outcome}
use Rattle.stream.specs.declared.limits.TheConstants.{MOST_RECORDS}
use Rattle.stream.specs.Records.{image_size}
use Rattle.stream.specs.Places.{run_record}
use Rattle.stream.specs.Parts.{PayloadIn, PayloadsIn, part_ranges}
use Rattle.stream.specs.Verdict.{verdict}
use Rattle.stream.specs.declared.stream.Stream.{Stream}
use Rattle.apply.specs.Steps.{Step, with_number, writes, range_records, steps_from}
use Rattle.apply.specs.Applies.{apply_steps, led_from}

-- the payload of a part lies in the bytes of its stream, on whichever side that stands
abbrev pub PayloadLies : List ℕ → Run PayloadMark → Type 0
PayloadLies bytes part = (side : Side) × PayloadIn side bytes part.mark part.length

-- the parts of a stream that was read: at most 512, rising up to the size, their payload in the
-- bytes
pub record WellParted (bytes : List ℕ) (parts : List (Run PayloadMark)) (size : ℕ) : Type 0 where
  pub rising : Rising 0 parts size
  pub lie : (side : Side) × PayloadsIn side bytes parts
  pub few : length parts ≤ MOST_RECORDS

-- whether a part begins before a position
abbrev pub begins_before : ℕ → Run PayloadMark → Bool
begins_before p part = nat_lt part.offset p

-- the first of some parts, which begin before a position, and those from there on
abbrev pub parts_before : ℕ → List (Run PayloadMark) → List (Run PayloadMark)
parts_before p parts = take (prefix_len (begins_before p) parts) parts

abbrev pub parts_from : ℕ → List (Run PayloadMark) → List (Run PayloadMark)
parts_from p parts = drop (prefix_len (begins_before p) parts) parts

-- the outcome of writing parts as record i, of applying a range by the parts that begin inside it,
-- and of applying ranges in turn
abbrev pub parts_outcome : Images → List ℕ → ℕ → List ℕ → List (Run PayloadMark) → Outcome
parts_outcome holds image i bytes parts = apply_steps holds image (with_number i (writes (map (run_record bytes) parts)))

abbrev pub range_outcome : Images → List ℕ → ℕ → Run RangeMark → List ℕ → List (Run PayloadMark) → Outcome
range_outcome holds image i range bytes inside =
    apply_steps holds image (with_number i (range_records range.mark range.offset range.length (map (run_record bytes) inside)))

abbrev pub ranges_outcome : Images → List ℕ → List ℕ → List (Run PayloadMark) → List (Run RangeMark) → Outcome
ranges_outcome holds image bytes parts ranges = apply_steps holds image (steps_from 1 (map (run_record bytes) parts) ranges)

-- the steps of parts: the size as record 0, then the ranges that the parts come to, numbered from 1
abbrev pub part_steps : List ℕ → List (Run PayloadMark) → ℕ → List Step
part_steps bytes parts size = (0, image_size size) ∷ steps_from 1 (map (run_record bytes) parts) (part_ranges parts size)

-- A stream that leads from a name was read, or the fault. Where the names meet, the records that
-- may be applied are all that reading gives.
abbrev pub ReadsFrom : List ℕ → List ℕ → Result Stream Fault → Type 0
ReadsFrom name bytes (Ok s) = (s.bytes.now ≡ bytes) × (led_from name bytes ≡ verdict bytes)
ReadsFrom name bytes (Err f) = led_from name bytes ≡ Err f
