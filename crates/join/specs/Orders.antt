-- Whether a stream's metadata lie in the canonical order, by the tags f and t. Rests on the stream
-- format.
use Rattle.std.specs.Prelude.{ℕ, ◌+◌, Bool, ◌&&◌, List, [], ◌∷◌, length, ◌==◌, slice_index}
use Rattle.stream.specs.Records.{header}
use Rattle.stream.specs.declared.limits.TheConstants.{NAME_HEAD}

-- whether the record at a place has the tag
abbrev pub has_tag : List ℕ → ℕ → ℕ → Bool
has_tag stream place tag = slice_index stream place == tag

-- f, unless the from name is empty, then t; what is left of the metadata is s
abbrev pub in_order : List ℕ → List ℕ → Bool
in_order stream [] = has_tag stream (length header) 116
in_order stream (b ∷ bs) = has_tag stream (length header) 102 && has_tag stream (length header + NAME_HEAD + length (b ∷ bs)) 116
