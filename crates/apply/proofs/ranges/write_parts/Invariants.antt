use Rattle.std.proofs.Common.{◌≡◌, map, drop}
use Rattle.apply.specs.Applies.{apply_steps}
use Rattle.apply.specs.Steps.{with_number, writes}
use Rattle.stream.specs.Places.{run_record}
use Rattle.apply.specs.Inside.{OnlyInside}
use Rattle.apply.proofs.ranges.write_parts.Given as goal

-- what is left, from the image now, gives what the whole gives
abbrev pub invariant-loop-part : goal.invariant-loop-part
invariant-loop-part g l =
    let m = g.S.Store in
    (m.holds l.store ≡ m.holds l.initial.store)
    × (apply_steps (m.holds l.initial.store) (m.image l.store) (with_number l.record (writes (map (run_record l.stream.bytes.now) (drop l.part-index l.stream.sheet.runs.now))))
    ≡ apply_steps (m.holds l.initial.store) (m.image l.initial.store) (with_number l.record (writes (map (run_record l.stream.bytes.now) l.stream.sheet.runs.now))))
    × OnlyInside m.image m.past l.initial.store l.store
