-- The ranges of a difference are canonical runs of its kinds. Rests on the overlay's canonical
-- runs.
use Rattle.std.proofs.Common.{ℕ, ◌^◌, ◌<◌, List, map, subst, arith}
use Rattle.overlay.specs.declared.runs.Run.{Run}
use Rattle.overlay.specs.declared.payloads.PayloadMark.{PayloadMark}
use Rattle.overlay.specs.Marks.{range_moves, range_of}
use Rattle.overlay.specs.Runs.{run_states, Rising, with_mark}
use Rattle.overlay.proofs.StateLists.{painted_length}
use Rattle.stream.specs.Parts.{part_ranges}
use Rattle.overlay.proofs.RangeRuns.{ranges_exist}

-- the ranges that parts come to rise up to the size
pub part_ranges_rise : (parts : List (Run PayloadMark)) (size : ℕ) → size < 2 ^ 64 → Rising 0 (part_ranges parts size) size
unfolding part_ranges
part_ranges_rise parts size small =
    let marks = map (with_mark range_of) parts in
    let long = painted_length range_moves marks size in
    subst (λ n. Rising 0 (part_ranges parts size) n) long (ranges_exist (run_states range_moves marks size) (omega arith)).canonical.rising
