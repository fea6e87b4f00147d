use Rattle.std.proofs.Common.{◌≡◌, ◌+◌, ◌*◌, ◌≤◌, min, length, take}
use Rattle.std.specs.List.{flat_map}
use Rattle.stream.specs.Bytes.{buffer_with}
use Rattle.listing.specs.Text.{line, most_bytes}
use Rattle.listing.proofs.text.put_text.Given as goal

abbrev pub invariant-loop-run : goal.invariant-loop-run
invariant-loop-run l =
    (l.at ≡ 19 + length (flat_map line (take l.run-index l.ranges)))
    × (l.out ≡ buffer_with l.initial.out 19 (flat_map line (take l.run-index l.ranges)))
    × (min (19 + length (flat_map line l.ranges)) (most_bytes (length l.ranges)) ≤ length l.initial.out)
    × (l.at ≤ most_bytes l.run-index)
