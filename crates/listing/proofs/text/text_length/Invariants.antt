use Rattle.std.proofs.Common.{◌≡◌, ◌+◌, ◌*◌, ◌≤◌, length, take}
use Rattle.std.specs.List.{flat_map}
use Rattle.listing.specs.Text.{line}
use Rattle.listing.proofs.text.text_length.Given as goal

abbrev pub invariant-loop-run : goal.invariant-loop-run
invariant-loop-run l = (l.total ≡ 19 + length (flat_map line (take l.run-index l.ranges))) × (l.total ≤ 19 + 47 * l.run-index)
