-- A stream that was read and whose plan was found: what it means, and what the calls of a shelf
-- need of it. Rests on streams that were read, their differences and ranges, and on plans.
use Rattle.std.specs.Prelude.{◌≡◌, ◌≤◌, List, take, Ok, Err, Result}
use Rattle.fault.specs.declared.fault.Fault.{Fault}
use Rattle.join.specs.Plans.{plan_of}
use Rattle.overlay.specs.declared.payloads.Side.{Side}
use Rattle.overlay.specs.declared.ranges.RangeMark.{RangeMark}
use Rattle.overlay.specs.declared.runs.Run.{Run}
use Rattle.stream.specs.declared.limits.TheConstants.{MOST_RECORDS}
use Rattle.stream.specs.Difference.{Difference, meaning, canonical_bytes}
use Rattle.stream.specs.Meaning.{ranges}
use Rattle.stream.specs.Streams.{stream_cells, stream_difference, OnSide}
use Rattle.shelf.specs.declared.planned.Planned.{Planned}

abbrev pub planned_difference : Planned → Difference
planned_difference p = stream_difference p.stream

-- its difference, or the fault
abbrev pub planned_meaning : Result Planned Fault → Result Difference Fault
planned_meaning (Ok p) = Ok (planned_difference p)
planned_meaning (Err f) = Err f

-- the plan is the stream's, and the ranges of the stream are in the first places of a buffer
pub record PlanHolds (p : Planned) (places : List (Run RangeMark)) : Type 0 where
  pub is_plan : p.plan ≡ plan_of (planned_difference p)
  pub few : p.plan.count ≤ MOST_RECORDS
  pub found : take p.plan.count places ≡ ranges (stream_cells p.stream)

-- a stream that is the canonical one of its difference, and was read for a side of a join
pub record IsOwn (side : Side) (p : Planned) : Type 0 where
  pub means : meaning p.stream.bytes.now ≡ Ok (planned_difference p)
  pub own : canonical_bytes (planned_difference p) ≡ p.stream.bytes.now
  pub on_side : OnSide side p.stream
