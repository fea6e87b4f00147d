use Rattle.std.proofs.Common.{◌≡◌, ℕ, ◌+◌, map, length, take, drop}
use Rattle.overlay.specs.Runs.{Rising}
use Rattle.stream.specs.Bytes.{buffer_with}
use Rattle.stream.specs.Records.{records_bytes}
use Rattle.stream.specs.Difference.{content_of}
use Rattle.join.specs.Lengths.{records_length}
use Rattle.join.specs.Parts.{joined_cells, LeftOf, AllRanged}
use Rattle.join.proofs.writing.put_records.Given as goal

-- q is where the last record's range ended
abbrev pub invariant-loop-run : goal.invariant-loop-run
invariant-loop-run l =
    let sheet = l.joined.sheet in
    let done = records_bytes (map (content_of (joined_cells l.joined)) (take l.run-index l.records)) in
    (q : ℕ) × LeftOf sheet q l.left × Rising q (drop l.run-index l.records) sheet.size
    × AllRanged sheet.runs.now sheet.size (drop l.run-index l.records)
    × (l.at + records_length (drop l.run-index l.records) ≡ l.start + records_length l.records)
    × (l.at ≡ l.start + length done)
    × (l.out ≡ buffer_with l.initial.out l.start done)
