-- The records of a stream with what they say, each and as a list, and their bytes: the stream
-- format, and its numbers that constants of the code carry. Rests on how numbers are written and on
-- these constants.
use Rattle.std.specs.Prelude.{◌≡◌, ℕ, ◌^◌, if◌then◌else◌, List, [], ◌∷◌, ◌++◌, length, codes, ◌==◌}
use Rattle.stream.specs.Bytes.{le_bytes}
use Rattle.stream.specs.declared.limits.TheConstants.{MOST_RECORDS, LONGEST_NAME, LARGEST_SIZE, NAME_HEAD, SIZE_HEAD, RANGE_HEAD}

-- a record of a stream with what it says
pub data Content : Type 0 where
  from_name : List ℕ → Content
  to_name : List ℕ → Content
  image_size : ℕ → Content
  data_at : ℕ → List ℕ → Content
  zeros_at : ℕ → ℕ → Content

-- its tag: f, t, s, w or z
abbrev pub tag_of : Content → ℕ
tag_of (from_name name) = 102
tag_of (to_name name) = 116
tag_of (image_size n) = 115
tag_of (data_at offset bytes) = 119
tag_of (zeros_at offset n) = 122

-- its bytes
abbrev pub record_bytes : Content → List ℕ
record_bytes (from_name name) = 102 ∷ (le_bytes 4 (length name) ++ name)
record_bytes (to_name name) = 116 ∷ (le_bytes 4 (length name) ++ name)
record_bytes (image_size n) = 115 ∷ le_bytes 8 n
record_bytes (data_at offset bytes) = 119 ∷ (le_bytes 8 offset ++ (le_bytes 8 (length bytes) ++ bytes))
record_bytes (zeros_at offset n) = 122 ∷ (le_bytes 8 offset ++ le_bytes 8 n)

-- the bytes of a list of records, and of a whole stream
abbrev pub records_bytes : List Content → List ℕ
records_bytes [] = []
records_bytes (c ∷ cs) = record_bytes c ++ records_bytes cs

abbrev pub header : List ℕ
header = codes "rbd diff v1" ++ (10 ∷ [])

abbrev pub stream_bytes : List Content → List ℕ
stream_bytes cs = header ++ (records_bytes cs ++ (101 ∷ []))

-- the metadata in its canonical order: f unless the from name is empty, t, s
abbrev pub from_records : List ℕ → List Content
from_records [] = []
from_records (b ∷ bs) = from_name (b ∷ bs) ∷ []

abbrev pub metas : List ℕ → List ℕ → ℕ → List Content
metas from to size = from_records from ++ (to_name to ∷ (image_size size ∷ []))

-- where in the image the bytes that a record is about begin; metadata is about none, and has 0
abbrev pub offset_of : Content → ℕ
offset_of (data_at offset bytes) = offset
offset_of (zeros_at offset n) = offset
offset_of meta = 0

-- the data records of a list
abbrev pub data_of : List Content → List Content
data_of [] = []
data_of (data_at offset bytes ∷ cs) = data_at offset bytes ∷ data_of cs
data_of (zeros_at offset n ∷ cs) = zeros_at offset n ∷ data_of cs
data_of (meta ∷ cs) = data_of cs

-- the name of a record with a tag, else the one before
abbrev pub name_or : ℕ → List ℕ → Content → List ℕ
name_or tag before (from_name name) = if tag == 102 then name else before
name_or tag before (to_name name) = if tag == 116 then name else before
name_or tag before c = before

-- the last f, t and s of a list, and what stands for them before
abbrev pub name_of_tag : ℕ → List ℕ → List Content → List ℕ
name_of_tag tag before [] = before
name_of_tag tag before (c ∷ cs) = name_of_tag tag (name_or tag before c) cs

abbrev pub from_of : List ℕ → List Content → List ℕ
from_of before cs = name_of_tag 102 before cs

abbrev pub to_of : List ℕ → List Content → List ℕ
to_of before cs = name_of_tag 116 before cs

abbrev pub size_in : ℕ → List Content → ℕ
size_in before [] = before
size_in before (image_size n ∷ cs) = size_in n cs
size_in before (c ∷ cs) = size_in before cs

-- A stream has at most 512 data records, a name at most 64 bytes, and an image at most 2^40. The
-- fields of a record before its payload take 5 bytes of a name, 9 of a size and 17 of data.
pub record FormatLimits : Type 0 where
  pub records : MOST_RECORDS ≡ 512
  pub name : LONGEST_NAME ≡ 64
  pub size : LARGEST_SIZE ≡ 2 ^ 40
  pub name_head : NAME_HEAD ≡ 5
  pub size_head : SIZE_HEAD ≡ 9
  pub range_head : RANGE_HEAD ≡ 17
