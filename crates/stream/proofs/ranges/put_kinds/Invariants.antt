use Rattle.std.proofs.Common.{◌≡◌, map, take, drop}
use Rattle.overlay.specs.Runs.{with_mark}
use Rattle.overlay.specs.Marks.{range_of}
use Rattle.stream.proofs.ranges.put_kinds.Given as goal

abbrev pub invariant-loop-i : goal.invariant-loop-i
invariant-loop-i l = (take l.i l.out ≡ map (with_mark range_of) (take l.i l.runs)) × (drop l.i l.out ≡ drop l.i l.initial.out)
