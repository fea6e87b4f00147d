-- The text of ranges: a first line, and a line for each range. Rests on overlay's runs and range
-- marks, on std's decimal numbers, and on the code's length of the longest line.
use Rattle.std.specs.Prelude.{ℕ, ◌+◌, ◌*◌, List, [], ◌∷◌, ◌++◌, length, codes, decimal}
use Rattle.std.specs.List.{flat_map}
use Rattle.overlay.specs.declared.runs.Run.{Run}
use Rattle.overlay.specs.declared.ranges.RangeMark.{RangeMark}
use Rattle.overlay.specs.declared.ranges.RangeMark.TheVariants.{Zeroed, Written}
use Rattle.listing.specs.declared.text.TheConstants.{LONGEST_LINE}

-- the first line
abbrev pub heading : List ℕ
heading = codes "offset length kind" ++ (10 ∷ [])

-- the rest of a line after its numbers: a space, the kind, and the line's end
abbrev pub line_end : RangeMark → List ℕ
line_end Zeroed = codes " zero" ++ (10 ∷ [])
line_end Written = codes " data" ++ (10 ∷ [])

-- a range's line: offset, length and kind
abbrev pub line : Run RangeMark → List ℕ
line r = decimal r.offset ++ (32 ∷ (decimal r.length ++ line_end r.mark))

-- the whole text
unfoldable pub listing : List (Run RangeMark) → List ℕ
listing rs = heading ++ flat_map line rs

-- the most bytes that the text of n ranges takes
abbrev pub most_bytes : ℕ → ℕ
most_bytes n = length heading + LONGEST_LINE * n
