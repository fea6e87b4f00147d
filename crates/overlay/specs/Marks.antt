-- The two kinds of marks: how they move on, which is the filler, when two mean the same, and which
-- range mark a payload mark has. Rests on nothing.
use Rattle.std.specs.Prelude.{ℕ, ◌+◌, ◌%◌, ◌^◌, Bool, true, false, if◌then◌else◌, ◌&&◌, ◌==◌, nat_lt}
use Rattle.overlay.specs.declared.ranges.RangeMark.{RangeMark}
use Rattle.overlay.specs.declared.ranges.RangeMark.TheVariants as range
use Rattle.overlay.specs.declared.payloads.Side.{Side}
use Rattle.overlay.specs.declared.payloads.Side.TheVariants.{Earlier, Later}
use Rattle.overlay.specs.declared.payloads.PayloadMark.{PayloadMark}
use Rattle.overlay.specs.declared.payloads.PayloadMark.TheVariants.{Zeroed, Written}

abbrev pub range_moves : RangeMark → ℕ → RangeMark
range_moves m k = m

abbrev pub range_filler : RangeMark
range_filler = range.Zeroed

abbrev pub range_alike : RangeMark → RangeMark → Bool
range_alike range.Zeroed range.Zeroed = true
range_alike range.Written range.Written = true
range_alike m n = false

-- a place below 2^64, as each place of the code is, moves on modulo 2^64
abbrev pub place_moves : ℕ → ℕ → ℕ
place_moves p k = if nat_lt p (2 ^ 64) then (p + k) % 2 ^ 64 else p

abbrev pub payload_moves : PayloadMark → ℕ → PayloadMark
payload_moves Zeroed k = Zeroed
payload_moves (Written side place) k = Written side (place_moves place k)

abbrev pub payload_filler : PayloadMark
payload_filler = Zeroed

abbrev pub side_alike : Side → Side → Bool
side_alike Earlier Earlier = true
side_alike Later Later = true
side_alike s t = false

abbrev pub payload_alike : PayloadMark → PayloadMark → Bool
payload_alike Zeroed Zeroed = true
payload_alike (Written s p) (Written t q) = side_alike s t && p == q
payload_alike m n = false

-- the kind of a payload mark
abbrev pub range_of : PayloadMark → RangeMark
range_of Zeroed = range.Zeroed
range_of (Written side place) = range.Written
