-- What a call that writes one result into the first bytes of a buffer returns and leaves there.
-- Rests on faults.
use Rattle.std.specs.Prelude.{ℕ, if◌then◌else◌, List, ◌++◌, length, drop, Ok, Err, Result, nat_lt}
use Rattle.fault.specs.Fault.{fault, at_layer}
use Rattle.fault.specs.declared.cause.Cause.TheVariants.{ShortBuffer}
use Rattle.fault.specs.declared.fault.Fault.{Fault}
use Rattle.fault.specs.declared.layer.Layer.{Layer}

-- the bytes written, or a layer's refusal of a buffer too short, with the full length needed
abbrev pub written_answer : Layer → List ℕ → List ℕ → Result ℕ Fault
written_answer layer buffer bytes =
    if nat_lt (length buffer) (length bytes) then Err (at_layer layer (fault ShortBuffer (length bytes))) else Ok (length bytes)

-- the buffer afterwards: the bytes, and after them what it held; a buffer too short is left alone
abbrev pub written_buffer : List ℕ → List ℕ → List ℕ
written_buffer buffer bytes = if nat_lt (length buffer) (length bytes) then buffer else bytes ++ drop (length bytes) buffer

-- the buffer after a call that may be refused before it writes
abbrev pub written_buffer_by : Result (List ℕ) Fault → List ℕ → List ℕ
written_buffer_by (Ok bytes) buffer = written_buffer buffer bytes
written_buffer_by (Err f) buffer = buffer
