-- The parts of a stream that field writers write in one piece. Rests on the stream format.
use Rattle.std.specs.Prelude.{ℕ, List, ◌∷◌, ◌++◌, length, codes}
use Rattle.stream.specs.Bytes.{le_bytes}
use Rattle.stream.specs.Records.{header, records_bytes, metas}

-- a name with its tag and its length
abbrev pub name_record : ℕ → List ℕ → List ℕ
name_record tag name = tag ∷ (le_bytes 4 (length name) ++ name)

-- a data record up to its payload
abbrev pub range_head : ℕ → ℕ → ℕ → List ℕ
range_head tag offset n = tag ∷ (le_bytes 8 offset ++ le_bytes 8 n)

-- the end record
abbrev pub end_record : List ℕ
end_record = codes "e"

-- what stands before the data records: the header, f unless the from name is empty, t and s
abbrev pub opening : List ℕ → List ℕ → ℕ → List ℕ
opening from to size = header ++ records_bytes (metas from to size)
