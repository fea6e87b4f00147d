use Rattle.std.proofs.Common.{◌≤◌}
use Rattle.benchmarks.proofs.shelves.put_all.Given as goal

abbrev pub invariant-loop-end : goal.invariant-loop-end
invariant-loop-end l = l.accepted ≤ l.end-index
