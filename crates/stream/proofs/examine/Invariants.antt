use Rattle.std.proofs.Common.{◌-◌, length}
use Rattle.stream.specs.Verdict.{verdict, check_answer}
use Rattle.stream.proofs.NextRecords.{Underway}
use Rattle.stream.proofs.examine.Given as goal

abbrev pub invariant-loop : goal.invariant-loop
invariant-loop l = Underway l.stream l.reader check_answer (check_answer (verdict l.stream))

abbrev pub decreases-loop : goal.decreases-loop
decreases-loop l = length l.reader.bytes.now - l.reader.place
