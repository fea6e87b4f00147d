-- When a record is refused, in the words of the format: one line for each cause that a record can
-- give, and for each way to give it. No line cites the reader. Rests on numbers in bytes, on states
-- and on where a reader stands.
use Rattle.std.specs.Prelude.{◌≡◌, ℕ, ◌+◌, ◌<◌, ◌≤◌, Bool, true, false, ◌⊎◌, ◌↔◌, List, [], length, Some, Err, ◌≢◌, slice_get}
use Rattle.std.specs.List.{Any}
use Rattle.stream.specs.declared.limits.TheConstants.{LARGEST_SIZE, LONGEST_NAME, MOST_RECORDS, NAME_HEAD, RANGE_HEAD, SIZE_HEAD}
use Rattle.stream.specs.Bytes.{le, field}
use Rattle.stream.specs.Rule.{State, Meta, Data, Seen}
use Rattle.stream.specs.Steps.{Pos, step_of}
use Rattle.fault.specs.declared.cause.Cause.{Cause}
use Rattle.fault.specs.declared.cause.Cause.TheVariants.{Cut, UnknownTag, Misplaced, Incomplete, BadName, TooLarge, BadRange, Overlap, TooManyRecords}

-- the first of the bytes is a tag
abbrev pub Begins : ℕ → List ℕ → Type 0
Begins tag rest = slice_get rest 0 ≡ Some tag

-- the byte is none of f, t, s, w, z and e
abbrev pub IsNoTag : ℕ → Type 0
IsNoTag b = (b ≢ 102) × (b ≢ 116) × (b ≢ 115) × (b ≢ 119) × (b ≢ 122) × (b ≢ 101)

-- only metadata was read, and none of a kind
abbrev pub Awaits : (Seen → Bool) → State → Type 0
Awaits kind (Meta seen) = kind seen ≡ false
Awaits kind Data = ⊥

-- metadata of a kind was read, or data
abbrev pub IsPast : (Seen → Bool) → State → Type 0
IsPast kind (Meta seen) = kind seen ≡ true
IsPast kind Data = Unit {0}

-- the to name and the size were read, so that data may come, or the end
abbrev pub IsComplete : State → Type 0
IsComplete (Meta seen) = (seen.to ≡ true) × (seen.sized ≡ true)
IsComplete Data = Unit {0}

-- one of them was not
abbrev pub Lacks : State → Type 0
Lacks (Meta seen) = (seen.to ≡ false) ⊎ (seen.sized ≡ false)
Lacks Data = ⊥

-- a from name or a to name, where it may come
abbrev pub NameDue : Pos → List ℕ → Type 0
NameDue p rest =
    (Begins 102 rest × Awaits (λ seen. seen.from) p.state) ⊎ (Begins 116 rest × Awaits (λ seen. seen.to) p.state)

-- a size, where it may come
abbrev pub SizeDue : Pos → List ℕ → Type 0
SizeDue p rest = Begins 115 rest × Awaits (λ seen. seen.sized) p.state

-- the tag of a data record, w or z
abbrev pub BeginsData : List ℕ → Type 0
BeginsData rest = Begins 119 rest ⊎ Begins 122 rest

-- a data record, where it may come: it is one of at most 512
abbrev pub DataDue : Pos → List ℕ → Type 0
DataDue p rest = BeginsData rest × IsComplete p.state × (p.count < MOST_RECORDS)

-- the fields of a record, which begins with its tag: the length of a name, a size, and the offset
-- and the length of a range
abbrev pub stated_name_length : List ℕ → ℕ
stated_name_length rest = le (field rest 1 4)

abbrev pub stated_size : List ℕ → ℕ
stated_size rest = le (field rest 1 8)

abbrev pub stated_offset : List ℕ → ℕ
stated_offset rest = le (field rest 1 8)

abbrev pub stated_length : List ℕ → ℕ
stated_length rest = le (field rest 9 8)

-- the fields of a name are whole, and its length is 1 to 64
abbrev pub StatesName : List ℕ → Type 0
StatesName rest =
    (NAME_HEAD ≤ length rest) × (1 ≤ stated_name_length rest) × (stated_name_length rest ≤ LONGEST_NAME)

-- the fields of a range are whole, and it has a byte and lies inside the size
abbrev pub StatesRange : Pos → List ℕ → Type 0
StatesRange p rest =
    (RANGE_HEAD ≤ length rest) × (1 ≤ stated_length rest) × (stated_offset rest + stated_length rest ≤ p.size)

-- a byte that a name may not have
abbrev pub IsUnprintable : ℕ → Type 0
IsUnprintable b = (b < 33) ⊎ (126 < b)

-- where a reader stands at p and these bytes are left, the next record is refused with a cause
pub data Refuses (p : Pos) (rest : List ℕ) : Cause → Type 0 where
  no_byte_left : rest ≡ [] → Refuses p rest Cut
  no_tag : (b : ℕ) → Begins b rest → IsNoTag b → Refuses p rest UnknownTag
  second_from : Begins 102 rest → IsPast (λ seen. seen.from) p.state → Refuses p rest Misplaced
  second_to : Begins 116 rest → IsPast (λ seen. seen.to) p.state → Refuses p rest Misplaced
  second_size : Begins 115 rest → IsPast (λ seen. seen.sized) p.state → Refuses p rest Misplaced
  too_early : BeginsData rest ⊎ Begins 101 rest → Lacks p.state → Refuses p rest Incomplete
  too_many : BeginsData rest → IsComplete p.state → MOST_RECORDS ≤ p.count
      → Refuses p rest TooManyRecords
  name_fields_cut : NameDue p rest → length rest < NAME_HEAD → Refuses p rest Cut
  size_cut : SizeDue p rest → length rest < SIZE_HEAD → Refuses p rest Cut
  range_fields_cut : DataDue p rest → length rest < RANGE_HEAD → Refuses p rest Cut
  empty_range : DataDue p rest → RANGE_HEAD ≤ length rest → stated_length rest ≡ 0 → Refuses p rest BadRange
  past_size : DataDue p rest → RANGE_HEAD ≤ length rest → p.size < stated_offset rest + stated_length rest
      → Refuses p rest BadRange
  above_limit : SizeDue p rest → SIZE_HEAD ≤ length rest → LARGEST_SIZE < stated_size rest
      → Refuses p rest TooLarge
  empty_name : NameDue p rest → NAME_HEAD ≤ length rest → stated_name_length rest ≡ 0
      → Refuses p rest BadName
  long_name : NameDue p rest → NAME_HEAD ≤ length rest → LONGEST_NAME < stated_name_length rest
      → Refuses p rest BadName
  overlapping : DataDue p rest → StatesRange p rest → stated_offset rest < p.end → Refuses p rest Overlap
  name_cut : NameDue p rest → StatesName rest → length rest < NAME_HEAD + stated_name_length rest
      → Refuses p rest Cut
  payload_cut : Begins 119 rest → DataDue p rest → StatesRange p rest → p.end ≤ stated_offset rest
      → length rest < RANGE_HEAD + stated_length rest → Refuses p rest Cut
  unprintable : NameDue p rest → StatesName rest → NAME_HEAD + stated_name_length rest ≤ length rest
      → Any IsUnprintable (field rest NAME_HEAD (stated_name_length rest)) → Refuses p rest BadName

-- a step of the reader refuses a record with a cause exactly if one of these lines does
abbrev pub RefusesExactly : Type 0
RefusesExactly = (p : Pos) (rest : List ℕ) (c : Cause) → Refuses p rest c ↔ (step_of p rest ≡ Err c)
