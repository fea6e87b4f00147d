-- The part of a stream that a payload mark names. Rests on nothing but the marks' declarations.
use Rattle.std.specs.Prelude.{ℕ, ◌+◌, if◌then◌else◌, List, length, take, drop, Some, None, Option, nat_le}
use Rattle.std.specs.Borrow.{Bor}
use Rattle.std.specs.Option.{option_map}
use Rattle.overlay.specs.declared.payloads.Side.{Side}
use Rattle.overlay.specs.declared.payloads.Side.TheVariants.{Earlier, Later}
use Rattle.overlay.specs.declared.payloads.PayloadMark.{PayloadMark}
use Rattle.overlay.specs.declared.payloads.PayloadMark.TheVariants.{Zeroed, Written}

-- the stream that a side names
abbrev pub stream_of : {X : Type 0} → X → X → Side → X
stream_of earlier later Earlier = earlier
stream_of earlier later Later = later

-- n bytes of a stream from a place on; None where they would pass its end
abbrev pub part_of : List ℕ → ℕ → ℕ → Option (List ℕ)
part_of stream place n = if nat_le (place + n) (length stream) then Some (take n (drop place stream)) else None

-- A written mark's place, with the n bytes of its side's stream from there on. None for a zeroed
-- mark, or where they would pass the end.
abbrev pub payload_of : List ℕ → List ℕ → PayloadMark → ℕ → Option (ℕ × List ℕ)
payload_of earlier later Zeroed n = None
payload_of earlier later (Written side place) n = option_map (λ bytes. (place, bytes)) (part_of (stream_of earlier later side) place n)

-- what a place and a slice that may be handed out hold
abbrev pub located_bytes : {X : Type 0} → Option (ℕ × Bor X) → Option (ℕ × X)
located_bytes None = None
located_bytes (Some x) = Some (x.0, x.1.now)
