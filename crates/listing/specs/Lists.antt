-- What the list of a stream is: the text of its ranges, or the stream's fault. Rests on the ranges
-- of a stream, on Text, on buffers and on faults.
use Rattle.std.specs.Prelude.{ℕ, List, Ok, Result}
use Rattle.fault.specs.Fault.{and_then}
use Rattle.fault.specs.declared.fault.Fault.{Fault}
use Rattle.fault.specs.declared.layer.Layer.TheVariants.{Stream}
use Rattle.stream.specs.Buffers.{written_answer}
use Rattle.stream.specs.Parts.{stream_ranges}
use Rattle.listing.specs.Text.{listing}

abbrev pub stream_text : List ℕ → Result (List ℕ) Fault
stream_text stream = and_then (stream_ranges stream) (λ rs. Ok (listing rs))

-- the answer of a list into a buffer: the stream's fault, then a buffer too short, else the bytes
-- written
abbrev pub stream_list_answer : List ℕ → List ℕ → Result ℕ Fault
stream_list_answer stream buffer = and_then (stream_ranges stream) (λ rs. written_answer Stream buffer (listing rs))
