-- What a stream means: a difference, the list of the states of its positions. Rests on the records,
-- and on overlay's marks, runs and states.
use Rattle.std.specs.Prelude.{ℕ, ◌+◌, ◌-◌, if◌then◌else◌, ◌&&◌, List, [], ◌∷◌, map, length, Some, None, Option, nat_le, nat_lt, slice_index}
use Rattle.std.specs.List.{range_with_len}
use Rattle.std.specs.Option.{option_map}
use Rattle.overlay.specs.declared.runs.Run.{Run}
use Rattle.overlay.specs.declared.ranges.RangeMark.{RangeMark}
use Rattle.overlay.specs.declared.ranges.RangeMark.TheVariants as range
use Rattle.overlay.specs.Marks.{range_moves, range_alike}
use Rattle.overlay.specs.Runs.{runs_from}
use Rattle.overlay.specs.States.{state_over}
use Rattle.stream.specs.Records.{Content, data_at, zeros_at, size_in}

-- the state of a position that is not kept: zeroed, or written with a byte. A difference is a list
-- of `Option Cell`, None where a position is kept; its length is the size
pub data Cell : Type 0 where
  zeroed : Cell
  written : ℕ → Cell

-- a state of the n positions from an offset on, and none elsewhere
abbrev pub state_within : ℕ → ℕ → ℕ → Cell → Option Cell
state_within offset n p s = if nat_le offset p && nat_lt p (offset + n) then Some s else None

-- what one record gives a position
abbrev pub record_state : Content → ℕ → Option Cell
record_state (data_at offset bytes) p = state_within offset (length bytes) p (written (slice_index bytes (p - offset)))
record_state (zeros_at offset n) p = state_within offset n p zeroed
record_state meta p = None

-- what records give a position: the one that comes later in the stream decides
abbrev pub records_state : List Content → ℕ → Option Cell
records_state [] p = None
records_state (c ∷ cs) p = state_over (records_state cs p) (record_state c p)

-- the difference that records mean
unfoldable pub cells : List Content → List (Option Cell)
cells cs = map (records_state cs) (range_with_len 0 (size_in 0 cs))

-- the kind of a state
abbrev pub mark_of : Cell → RangeMark
mark_of zeroed = range.Zeroed
mark_of (written b) = range.Written

-- the ranges of a difference: the longest runs of zeroed and of written positions, in rising order
unfoldable pub ranges : List (Option Cell) → List (Run RangeMark)
ranges ds = runs_from range_moves range_alike 0 (map (option_map mark_of) ds)
