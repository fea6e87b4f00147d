-- What a stretch of streams comes to: the join of its differences and the overlay of their ranges,
-- oldest first. Rests on the ledger's stretches, on what a stream means, and on how ranges are
-- overlaid.
use Rattle.std.specs.Prelude.{ℕ, List, [], ◌∷◌, map, length, Ok, Err, Result}
use Rattle.fault.specs.declared.fault.Fault.{Fault}
use Rattle.overlay.specs.declared.runs.Run.{Run}
use Rattle.overlay.specs.declared.ranges.RangeMark.{RangeMark}
use Rattle.overlay.specs.Marks.{range_moves, range_alike, range_filler}
use Rattle.overlay.specs.Runs.{overlay_runs}
use Rattle.stream.specs.Meaning.{ranges}
use Rattle.stream.specs.Difference.{Difference, meaning, join_difference, image_after, canonical_bytes}
use Rattle.shelf.specs.Ledger.{Stretch}

-- the difference of a stream; put accepts no stream without one
abbrev pub difference_or_empty : Result Difference Fault → Difference
difference_or_empty (Ok d) = d
difference_or_empty (Err f) = record { from = []; to = []; cells = [] }

abbrev pub difference_in : List ℕ → Difference
difference_in stream = difference_or_empty (meaning stream)

abbrev pub differences_in : List (List ℕ) → List Difference
differences_in streams = map difference_in streams

-- an image with differences applied in order
abbrev pub applied_all : List Difference → List ℕ → List ℕ
applied_all [] image = image
applied_all (d ∷ ds) image = applied_all ds (image_after d.cells image)

-- the join of a difference and those that follow it
abbrev pub joined_all : Difference → List Difference → Difference
joined_all d [] = d
joined_all d (e ∷ es) = joined_all (join_difference d e) es

-- the join of a stretch, and its canonical stream
abbrev pub stretch_join : Stretch → Difference
stretch_join s = joined_all (difference_in s.oldest) (differences_in s.later)

abbrev pub stretch_stream : Stretch → List ℕ
stretch_stream s = canonical_bytes (stretch_join s)

-- the overlay of earlier ranges of a size by later ranges of a size
abbrev pub overlay_ranges : List (Run RangeMark) → ℕ → List (Run RangeMark) → ℕ → List (Run RangeMark)
overlay_ranges earlier m later n = overlay_runs range_moves range_alike range_filler earlier m later n

-- ranges of a size under the ranges, with the sizes, of the differences that follow
abbrev pub overlay_all : List (Run RangeMark) → ℕ → List Difference → List (Run RangeMark)
overlay_all rs n [] = rs
overlay_all rs n (e ∷ es) = overlay_all (overlay_ranges rs n (ranges e.cells) (length e.cells)) (length e.cells) es

-- the overlay of a stretch; a lone stream gives its own ranges
abbrev pub overlay_from : Difference → List Difference → List (Run RangeMark)
overlay_from d es = overlay_all (ranges d.cells) (length d.cells) es

abbrev pub stretch_overlay : Stretch → List (Run RangeMark)
stretch_overlay s = overlay_from (difference_in s.oldest) (differences_in s.later)
