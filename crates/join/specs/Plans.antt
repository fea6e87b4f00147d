-- What the stream of a difference comes to, and what finding it leaves in a buffer. Rests on
-- differences and their ranges, on overlay's buffers and on faults.
use Rattle.std.specs.Prelude.{◌≡◌, ◌≤◌, if◌then◌else◌, List, length, take, IfOk, Ok, Err, Result, nat_lt}
use Rattle.fault.specs.Fault.{fault}
use Rattle.fault.specs.declared.fault.Fault.{Fault}
use Rattle.fault.specs.declared.cause.Cause.TheVariants.{TooManyRanges}
use Rattle.overlay.specs.declared.runs.Run.{Run}
use Rattle.overlay.specs.declared.ranges.RangeMark.{RangeMark}
use Rattle.overlay.specs.Buffers.{first_places}
use Rattle.stream.specs.declared.limits.TheConstants.{MOST_RECORDS}
use Rattle.stream.specs.Meaning.{ranges}
use Rattle.stream.specs.Difference.{Difference, canonical_bytes}
use Rattle.join.specs.declared.plans.Plan.{Plan}

-- a result for a difference of at most 512 canonical records, and the refusal of more
abbrev pub within_limit : {A : Type 0} → Difference → A → Result A Fault
within_limit d x = if nat_lt MOST_RECORDS (length (ranges d.cells)) then Err (fault TooManyRanges 0) else Ok x

-- how many canonical records a difference has, and how long its stream is
abbrev pub plan_of : Difference → Plan
plan_of d = record { count = length (ranges d.cells); length = length (canonical_bytes d) }

-- the plan of a difference of at most 512 ranges, which stand in the first places of a buffer
pub record PlanFound (d : Difference) (plan : Plan) (before after : List (Run RangeMark)) : Type 0 where
  pub is_plan : plan ≡ plan_of d
  pub few : plan.count ≤ MOST_RECORDS
  pub found : take plan.count after ≡ ranges d.cells
  pub places : after ≡ first_places (ranges d.cells) before

-- the plan of any difference, or the refusal of more ranges: the buffer then holds the first 512
pub record PlanAnswer (d : Difference) (result : Result Plan Fault) (before after : List (Run RangeMark)) : Type 0 where
  pub plan : result ≡ within_limit d (plan_of d)
  pub found : IfOk result (λ plan. take plan.count after ≡ ranges d.cells)
  pub places : after ≡ first_places (ranges d.cells) before
