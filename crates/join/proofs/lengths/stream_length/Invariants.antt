use Rattle.std.proofs.Common.{◌≡◌, ℕ, ◌+◌, ◌*◌, ◌≤◌, drop}
use Rattle.overlay.specs.Runs.{Rising}
use Rattle.join.specs.Lengths.{records_length, stream_length}
use Rattle.join.proofs.lengths.stream_length.Given as goal

-- each record adds at most 18 times its length, so the sum stays below 18 times where the last one
-- ended
abbrev pub invariant-loop-run : goal.invariant-loop-run
invariant-loop-run l =
    (q : ℕ) × Rising q (drop l.run-index l.records) l.heading.size
    × (l.total + records_length (drop l.run-index l.records) ≡ stream_length l.heading.from.now l.heading.to.now l.records)
    × (l.total ≤ 200 + 18 * q)
