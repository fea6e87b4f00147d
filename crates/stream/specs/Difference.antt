-- A difference with its two names: what the records of a stream mean, the join of two, what
-- applying one makes of an image, and the one canonical stream of each. Rests on what records mean
-- (Meaning), on their names and bytes (Records), on reading and faults, on which names are good
-- (Wellformed), and on overlay's states.
use Rattle.std.specs.Prelude.{ℕ, ◌≤◌, List, [], ◌∷◌, ◌++◌, map, length, take, drop, Some, None, Ok, Option, Result}
use Rattle.fault.specs.Fault.{and_then}
use Rattle.fault.specs.declared.fault.Fault.{Fault}
use Rattle.overlay.specs.declared.runs.Run.{Run}
use Rattle.overlay.specs.declared.ranges.RangeMark.{RangeMark}
use Rattle.overlay.specs.declared.ranges.RangeMark.TheVariants as range
use Rattle.overlay.specs.States.{first_or, rest, overlay_states}
use Rattle.stream.specs.declared.limits.TheConstants.{MOST_RECORDS, LARGEST_SIZE}
use Rattle.stream.specs.Records.{Content, data_at, zeros_at, stream_bytes, metas, from_of, to_of}
use Rattle.stream.specs.Verdict.{verdict}
use Rattle.stream.specs.Wellformed.{GoodName}
use Rattle.stream.specs.Meaning.{Cell, zeroed, written, cells, ranges}

-- the names of the snapshots that it leads from and to, and the states of the positions; the size
-- is how many these are
pub record Difference : Type 0 where
  pub from : List ℕ
  pub to : List ℕ
  pub cells : List (Option Cell)

-- what records mean, and what a stream means, or its fault
abbrev pub difference : List Content → Difference
difference cs = record { from = from_of [] cs; to = to_of [] cs; cells = cells cs }

unfoldable pub meaning : List ℕ → Result Difference Fault
meaning stream = and_then (verdict stream) (λ cs. Ok (difference cs))

-- an earlier difference and a later one as one: where the later keeps a position the earlier's
-- state stands, and zeroed past its size
abbrev pub join_difference : Difference → Difference → Difference
join_difference d e = record { from = d.from; to = e.to; cells = overlay_states zeroed d.cells e.cells }

-- the byte at a position that held `old`
abbrev pub byte_over : ℕ → Option Cell → ℕ
byte_over old None = old
byte_over old (Some zeroed) = 0
byte_over old (Some (written b)) = b

-- what applying a difference makes of an image: a set position has its byte, a kept one the old
-- byte, 0 past the old end
unfoldable pub image_after : List (Option Cell) → List ℕ → List ℕ
image_after [] image = []
image_after (s ∷ ss) image = byte_over (first_or 0 image) s ∷ image_after ss (rest image)

-- the bytes of the n positions from an offset on
abbrev pub payload_at : List (Option Cell) → ℕ → ℕ → List ℕ
payload_at ds offset n = map (byte_over 0) (take n (drop offset ds))

-- the data record of a range: a z has no payload
abbrev pub range_content : RangeMark → ℕ → ℕ → List ℕ → Content
range_content range.Zeroed offset n bytes = zeros_at offset n
range_content range.Written offset n bytes = data_at offset bytes

abbrev pub content_of : List (Option Cell) → Run RangeMark → Content
content_of ds r = range_content r.mark r.offset r.length (payload_at ds r.offset r.length)

-- the canonical stream of a difference: f unless the from name is empty, t, s, and one z or w for
-- each range
abbrev pub canonical_records : Difference → List Content
canonical_records d = metas d.from d.to (length d.cells) ++ map (content_of d.cells) (ranges d.cells)

unfoldable pub canonical_bytes : Difference → List ℕ
canonical_bytes d = stream_bytes (canonical_records d)

-- a from name may be empty
abbrev pub GoodFrom : List ℕ → Type 0
GoodFrom [] = Unit {0}
GoodFrom (b ∷ bs) = GoodName (b ∷ bs)

-- a difference that a stream can express: good names, a size of at most 2^40 and at most 512 ranges
pub record Expressible (d : Difference) : Type 0 where
  pub from_good : GoodFrom d.from
  pub to_good : GoodName d.to
  pub small : length d.cells ≤ LARGEST_SIZE
  pub few : length (ranges d.cells) ≤ MOST_RECORDS
