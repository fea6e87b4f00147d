-- What a stream that was read means, and what reading it returns. Rests on differences, on the
-- stream's parts, on what reading promises, and on faults.
use Rattle.std.specs.Prelude.{◌≡◌, List, ℕ, IfOk, Ok, Option, Result}
use Rattle.fault.specs.Fault.{and_then}
use Rattle.fault.specs.declared.fault.Fault.{Fault}
use Rattle.overlay.specs.declared.payloads.Side.{Side}
use Rattle.stream.specs.Meaning.{Cell}
use Rattle.stream.specs.Parts.{parts_cells}
use Rattle.stream.specs.Difference.{Difference, meaning}
use Rattle.stream.specs.Gathered.{gathered_from, nothing_gathered}
use Rattle.stream.specs.Reads.{ReadOn}
use Rattle.stream.specs.Verdict.{verdict}
use Rattle.stream.specs.declared.stream.Stream.{Stream}

-- the states that its runs give the positions: their marks name places of its own bytes, on
-- whichever side it stands
unfoldable pub stream_cells : Stream → List (Option Cell)
stream_cells s = parts_cells s.bytes.now s.bytes.now s.sheet.runs.now s.sheet.size

abbrev pub stream_difference : Stream → Difference
stream_difference s = record { from = s.from.now; to = s.to.now; cells = stream_cells s }

-- what a stream means, or the fault of its reading
abbrev pub stream_meaning : Result Stream Fault → Result Difference Fault
stream_meaning r = and_then r (λ s. Ok (stream_difference s))

-- a stream that was read for a side of a join
abbrev pub OnSide : Side → Stream → Type 0
OnSide side s = ReadOn side s.bytes.now s.from.now s.to.now s.sheet.size s.sheet.runs.now

-- a reading of bytes for a side: what they mean, or their fault; a stream that was read has these
-- bytes, and was read for that side
pub record StreamRead (side : Side) (stream : List ℕ) (result : Result Stream Fault) : Type 0 where
  pub means : stream_meaning result ≡ meaning stream
  pub bytes : IfOk result (λ s. s.bytes.now ≡ stream)
  pub on_side : IfOk result (OnSide side)
  pub runs : IfOk result (λ s. Ok s.sheet.runs.now ≡ and_then (gathered_from side nothing_gathered 12 (verdict stream)) (λ g. Ok g.runs))
