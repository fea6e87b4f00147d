use Rattle.std.proofs.Common.{◌≤◌}
use Rattle.benchmarks.proofs.shelves.accepted.Given as goal

abbrev pub invariant-loop-i : goal.invariant-loop-i
invariant-loop-i g l = goal.F-IsAlwaysCallable g l.call × (l.accepted ≤ l.i)
