-- Where the parts of a joined payload lie in the two streams. Rests on runs and on payload marks.
use Rattle.std.specs.Prelude.{ℕ, ◌<◌, List, length, Some, Option}
use Rattle.std.specs.Coded.{Unit-prop, le_prop}
use Rattle.overlay.specs.declared.runs.Run.{Run}
use Rattle.overlay.specs.declared.payloads.PayloadMark.{PayloadMark}
use Rattle.overlay.specs.declared.payloads.PayloadMark.TheVariants.{Written}
use Rattle.overlay.specs.Marks.{payload_moves}
use Rattle.overlay.specs.Payloads.{stream_of}
use Rattle.overlay.specs.Runs.{state_at}

-- the byte that a state names is in its stream
abbrev pub ByteThere : List ℕ → List ℕ → Option PayloadMark → Type 0
ByteThere earlier later (Some (Written side place)) = place < length (stream_of earlier later side)
ByteThere earlier later state = Unit {0}

-- each byte below a size that parts name is in its stream
abbrev pub AllPlaced : List ℕ → List ℕ → List (Run PayloadMark) → ℕ → Type 0
AllPlaced earlier later parts size = (p : ℕ) → p < size → ByteThere earlier later (state_at payload_moves parts p)

-- that a byte is there can be shown in one way only, so that a value can keep it
placed_prop : (earlier later : List ℕ) (state : Option PayloadMark) → IsProp (ByteThere earlier later state)
placed_prop earlier later (Some (Written side place)) = le_prop
placed_prop earlier later state = Unit-prop

pub all_placed_prop : (earlier later : List ℕ) (parts : List (Run PayloadMark)) (size : ℕ) → IsProp (AllPlaced earlier later parts size)
all_placed_prop earlier later parts size h k i = λ p l. placed_prop earlier later (state_at payload_moves parts p) (h p l) (k p l) i
