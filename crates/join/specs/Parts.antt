-- The parts of which a joined payload is made: what they say of a range, and the bytes that they
-- name. Rests on the stream's parts, on differences, and on overlay's marks, payloads, runs and
-- walks.
use Rattle.std.specs.Prelude.{◌≡◌, ℕ, ◌+◌, ◌<◌, ◌≤◌, List, [], ◌∷◌, length, take, drop, Some, Option}
use Rattle.std.specs.Option.{option_map}
use Rattle.overlay.specs.declared.runs.Run.{Run}
use Rattle.overlay.specs.declared.ranges.RangeMark.{RangeMark}
use Rattle.overlay.specs.declared.payloads.PayloadMark.{PayloadMark}
use Rattle.overlay.specs.declared.payloads.PayloadMark.TheVariants.{Written}
use Rattle.overlay.specs.Marks.{payload_moves, range_of}
use Rattle.overlay.specs.Payloads.{stream_of}
use Rattle.overlay.specs.Runs.{run_end, state_at}
use Rattle.overlay.specs.Walks.{Left}
use Rattle.overlay.specs.declared.sheets.Sheet.{Sheet}
use Rattle.stream.specs.Meaning.{Cell}
use Rattle.stream.specs.Difference.{Difference}
use Rattle.stream.specs.Parts.{parts_cells}
use Rattle.join.specs.declared.parts.JoinedParts.{JoinedParts}

-- the states that the parts of a join give the positions
abbrev pub joined_cells : JoinedParts → List (Option Cell)
joined_cells j = parts_cells j.earlier.now j.later.now j.sheet.runs.now j.sheet.size

-- the difference that its stream means
abbrev pub joined_difference : JoinedParts → Difference
joined_difference j = record { from = j.from.now; to = j.to.now; cells = joined_cells j }

-- the parts of a sheet from a position on: at each position from there they say what all of them
-- say
pub record LeftOf (sheet : Sheet PayloadMark) (pos : ℕ) (left : Sheet PayloadMark) : Type 0 where
  pub size : left.size ≡ sheet.size
  pub runs : Left payload_moves sheet.runs.now pos left.runs.now

-- a range below the size whose positions all have its mark by the parts
pub record Ranged (parts : List (Run PayloadMark)) (size : ℕ) (r : Run RangeMark) : Type 0 where
  pub within : run_end r ≤ size
  pub alike : (p : ℕ) → r.offset ≤ p → p < run_end r → option_map range_of (state_at payload_moves parts p) ≡ Some r.mark

abbrev pub AllRanged : List (Run PayloadMark) → ℕ → List (Run RangeMark) → Type 0
AllRanged parts size [] = Unit {0}
AllRanged parts size (r ∷ rs) = Ranged parts size r × AllRanged parts size rs

-- a written state whose n bytes lie in the stream that it names
abbrev pub PayloadThere : List ℕ → List ℕ → Option PayloadMark → ℕ → Type 0
PayloadThere earlier later (Some (Written side place)) n = place + n ≤ length (stream_of earlier later side)
PayloadThere earlier later state n = ⊥

-- these bytes
abbrev pub named_bytes : List ℕ → List ℕ → Option PayloadMark → ℕ → List ℕ
named_bytes earlier later (Some (Written side place)) n = take n (drop place (stream_of earlier later side))
named_bytes earlier later state n = []
