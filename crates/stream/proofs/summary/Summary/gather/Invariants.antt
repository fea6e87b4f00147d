use Rattle.std.proofs.Common.{◌≡◌, ◌-◌, length}
use Rattle.stream.specs.Verdict.{verdict}
use Rattle.stream.specs.Gathered.{buffer_runs, gathered_from, gathered_of, nothing_gathered}
use Rattle.stream.specs.Stands.{count_of_state}
use Rattle.stream.proofs.NextRecords.{Underway}
use Rattle.stream.proofs.summary.Summary.gather.Given as goal

-- what is gathered with what reading on from here comes to, is what is gathered of the stream
abbrev pub invariant-loop-record : goal.invariant-loop-record
invariant-loop-record l =
    Underway l.stream l.reader (gathered_from l.side (gathered_of l.summary l.buffer) l.reader.place) (gathered_from l.side nothing_gathered 12 (verdict l.stream))
    × (length (buffer_runs l.buffer) ≡ count_of_state l.reader.state)

abbrev pub decreases-loop-record : goal.decreases-loop-record
decreases-loop-record l = length l.reader.bytes.now - l.reader.place
