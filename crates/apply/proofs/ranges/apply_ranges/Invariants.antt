use Rattle.std.proofs.Common.{◌≡◌, ◌+◌, map, drop}
use Rattle.apply.specs.Applies.{apply_steps}
use Rattle.apply.specs.Steps.{steps_from}
use Rattle.stream.specs.Places.{run_record}
use Rattle.apply.specs.Inside.{OnlyInside}
use Rattle.apply.proofs.ranges.apply_ranges.Given as goal

-- what is left, from the image now, gives what the whole gives
abbrev pub invariant-loop-i : goal.invariant-loop-i
invariant-loop-i g l =
    let m = g.S.Store in
    let xs = l.stream.bytes.now in
    (l.left.bytes.now ≡ xs)
    × (m.holds l.store ≡ m.holds l.initial.store)
    × (apply_steps (m.holds l.initial.store) (m.image l.store) (steps_from (l.i + 1) (map (run_record xs) l.left.sheet.runs.now) (drop l.i l.ranges))
    ≡ apply_steps (m.holds l.initial.store) (m.image l.initial.store) (steps_from 1 (map (run_record xs) l.stream.sheet.runs.now) l.ranges))
    × OnlyInside m.image m.past l.initial.store l.store
