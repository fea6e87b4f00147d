-- Payload marks name bytes of two streams: the difference that runs of them mean, and its ranges.
-- Rests on records and reading, on what records mean, on overlay's marks, runs and states, and on
-- faults.
use Rattle.std.specs.Prelude.{◌≡◌, ℕ, ◌+◌, ◌≤◌, List, [], ◌∷◌, map, length, take, Ok, Option, Result, slice_index}
use Rattle.std.specs.Option.{option_map}
use Rattle.fault.specs.Fault.{and_then}
use Rattle.fault.specs.declared.fault.Fault.{Fault}
use Rattle.overlay.specs.declared.runs.Run.{Run}
use Rattle.overlay.specs.declared.ranges.RangeMark.{RangeMark}
use Rattle.overlay.specs.declared.payloads.PayloadMark.{PayloadMark}
use Rattle.overlay.specs.declared.payloads.PayloadMark.TheVariants.{Zeroed, Written}
use Rattle.overlay.specs.declared.payloads.Side.{Side}
use Rattle.overlay.specs.Marks.{payload_moves, range_moves, range_alike, range_of}
use Rattle.overlay.specs.Buffers.{first_places}
use Rattle.overlay.specs.Payloads.{stream_of}
use Rattle.overlay.specs.Runs.{run_states, Rising, with_mark, runs_from}
use Rattle.stream.specs.Records.{Content}
use Rattle.stream.specs.Meaning.{Cell, zeroed, written, cells, ranges}
use Rattle.stream.specs.Verdict.{verdict}
use Rattle.stream.specs.declared.limits.TheConstants.{MOST_RECORDS, LARGEST_SIZE}

-- the state that a mark stands for: the byte at its place of the stream on its side
abbrev pub cell_of : List ℕ → List ℕ → PayloadMark → Cell
cell_of earlier later Zeroed = zeroed
cell_of earlier later (Written side place) = written (slice_index (stream_of earlier later side) place)

-- the difference of a size that parts of two streams mean
abbrev pub parts_cells : List ℕ → List ℕ → List (Run PayloadMark) → ℕ → List (Option Cell)
parts_cells earlier later parts size = map (option_map (cell_of earlier later)) (run_states payload_moves parts size)

-- the ranges that runs come to, and those that parts come to by their kinds alone
abbrev pub range_runs : List (Run RangeMark) → ℕ → List (Run RangeMark)
range_runs runs size = runs_from range_moves range_alike 0 (run_states range_moves runs size)

unfoldable pub part_ranges : List (Run PayloadMark) → ℕ → List (Run RangeMark)
part_ranges parts size = range_runs (map (with_mark range_of) parts) size

-- the ranges of a stream, or its fault
unfoldable pub stream_ranges : List ℕ → Result (List (Run RangeMark)) Fault
stream_ranges bytes = and_then (verdict bytes) (λ cs. Ok (ranges (cells cs)))

-- what finding ranges returns and leaves in a buffer: how many there are, and they stand in its
-- first places
pub record RangesFound (rs : List (Run RangeMark)) (result : ℕ) (before after : List (Run RangeMark)) : Type 0 where
  pub count : result ≡ length rs
  pub few : result ≤ MOST_RECORDS
  pub found : take result after ≡ rs
  pub places : after ≡ first_places rs before

-- the payload of a mark's n bytes lies in the stream of a side
abbrev pub PayloadIn : Side → List ℕ → PayloadMark → ℕ → Type 0
PayloadIn side bytes Zeroed n = Unit {0}
PayloadIn side bytes (Written s place) n = (s ≡ side) × (place + n ≤ length bytes)

abbrev pub PayloadsIn : Side → List ℕ → List (Run PayloadMark) → Type 0
PayloadsIn side bytes [] = Unit {0}
PayloadsIn side bytes (r ∷ rs) = PayloadIn side bytes r.mark r.length × PayloadsIn side bytes rs

-- runs of a stream on a side, rising up to its size, that mean the difference of its records
pub record StandsFor (side : Side) (bytes : List ℕ) (cs : List Content) (parts : List (Run PayloadMark)) (size : ℕ) : Type 0 where
  pub rising : Rising 0 parts size
  pub inside : PayloadsIn side bytes parts
  pub few : length parts ≤ MOST_RECORDS
  pub small : size ≤ LARGEST_SIZE
  pub means : (earlier later : List ℕ) → stream_of earlier later side ≡ bytes → parts_cells earlier later parts size ≡ cells cs
