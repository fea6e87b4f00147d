use Rattle.std.proofs.Common.{◌≡◌, ◌-◌, ◌≤◌}
use Rattle.overlay.specs.Runs.{run_end}
use Rattle.stream.specs.Bytes.{buffer_with}
use Rattle.stream.specs.Difference.{payload_at}
use Rattle.join.specs.Parts.{joined_cells, LeftOf}
use Rattle.join.proofs.writing.put_payload.Given as goal

abbrev pub invariant-loop-pos : goal.invariant-loop-pos
invariant-loop-pos l =
    record {
      from : l.run.offset ≤ l.pos;
      to : l.pos ≤ run_end l.run;
      left : LeftOf l.joined.sheet l.pos l.rest;
      put : l.tail ≡ buffer_with l.initial.tail 0 (payload_at (joined_cells l.joined) l.run.offset (l.pos - l.run.offset));
    }

abbrev pub decreases-loop-pos : goal.decreases-loop-pos
decreases-loop-pos l = run_end l.run - l.pos
