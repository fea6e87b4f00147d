-- Which lists of records are sound, in one look at the whole list, and that a stream is accepted
-- exactly if it is the stream of one. Rests on records, on reading, and on the rules record by
-- record (Wellformed).
use Rattle.std.specs.Prelude.{◌≡◌, ℕ, suc, ◌+◌, ◌≤◌, if◌then◌else◌, List, [], ◌∷◌, ◌++◌, length, Ok, Err, Result, ◌==◌}
use Rattle.std.specs.List.{AllByRecursion}
use Rattle.stream.specs.declared.limits.TheConstants.{LARGEST_SIZE, MOST_RECORDS}
use Rattle.stream.specs.Records.{Content, from_name, to_name, image_size, data_at, zeros_at, stream_bytes, size_in, tag_of}
use Rattle.stream.specs.Verdict.{start, verdict, check_answer}
use Rattle.stream.specs.Wellformed.{GoodName, WellFormed, Bytes, Refusal}
use Rattle.fault.specs.declared.fault.Fault.{Fault}

-- metadata with a good name, or a size of at most 2^40
abbrev pub GoodMeta : Content → Type 0
GoodMeta (from_name name) = GoodName name
GoodMeta (to_name name) = GoodName name
GoodMeta (image_size n) = n ≤ LARGEST_SIZE
GoodMeta c = ⊥

-- how many records with a tag a list has, and how many f, t and s
abbrev pub count_of_tag : ℕ → List Content → ℕ
count_of_tag tag [] = 0
count_of_tag tag (c ∷ cs) = if tag_of c == tag then suc (count_of_tag tag cs) else count_of_tag tag cs

abbrev pub froms : List Content → ℕ
froms cs = count_of_tag 102 cs

abbrev pub tos : List Content → ℕ
tos cs = count_of_tag 116 cs

abbrev pub sizes : List Content → ℕ
sizes cs = count_of_tag 115 cs

-- data records in rising order from an end on, each of at least one byte and inside the size
abbrev pub RisingRecords : ℕ → ℕ → List Content → Type 0
RisingRecords size end [] = Unit {0}
RisingRecords size end (data_at offset bytes ∷ cs) = (end ≤ offset) × (1 ≤ length bytes) × (offset + length bytes ≤ size) × RisingRecords size (offset + length bytes) cs
RisingRecords size end (zeros_at offset n ∷ cs) = (end ≤ offset) × (1 ≤ n) × (offset + n ≤ size) × RisingRecords size (offset + n) cs
RisingRecords size end (meta ∷ cs) = ⊥

-- metadata and then data: at most one f, one t and one s in any order, then at most 512 data
-- records in rising order
pub record Sound (cs : List Content) : Type 0 where
  pub metas : List Content
  pub datas : List Content
  pub whole : cs ≡ metas ++ datas
  pub good : AllByRecursion GoodMeta metas
  pub one_from : froms metas ≤ 1
  pub one_to : tos metas ≡ 1
  pub one_size : sizes metas ≡ 1
  pub rising : RisingRecords (size_in 0 metas) 0 datas
  pub few : length datas ≤ MOST_RECORDS

-- well formed, record by record, is the same
abbrev pub SoundExactly : Type 0
SoundExactly = (cs : List Content) → (WellFormed start cs → Sound cs) × (Sound cs → WellFormed start cs)

-- the stream of a sound list of records: header, the encodings, and e
abbrev pub IsStream : List ℕ → Type 0
IsStream xs = (cs : List Content) × Sound cs × (xs ≡ stream_bytes cs)

-- a stream is accepted exactly if it is the stream of a sound list of records
abbrev pub AcceptedExactly : Type 0
AcceptedExactly = (xs : List ℕ) → Bytes xs → (check_answer (verdict xs) ≡ Ok tt → IsStream xs) × (IsStream xs → check_answer (verdict xs) ≡ Ok tt)

-- the answer of a check: yes exactly for a stream of a sound list, and a fault exactly if it is the
-- first thing wrong
pub record Exact (xs : List ℕ) (r : Result (Unit {0}) Fault) : Type 0 where
  pub accepted : r ≡ Ok tt → IsStream xs
  pub stream : IsStream xs → r ≡ Ok tt
  pub refused : (f : Fault) → r ≡ Err f → Refusal xs f
  pub refusal : (f : Fault) → Refusal xs f → r ≡ Err f
