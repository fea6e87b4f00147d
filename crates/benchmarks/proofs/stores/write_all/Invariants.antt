use Rattle.std.proofs.Common.{◌≤◌}
use Rattle.benchmarks.proofs.stores.write_all.Given as goal

abbrev pub invariant-loop-offset : goal.invariant-loop-offset
invariant-loop-offset g l = l.accepted ≤ l.offset-index
