-- The worked examples as one list, and what it means that one holds: the definition that the call's
-- contract cites gives it. Rests on the definitions of check, list, join, apply, the store's calls,
-- the sets of the two kinds of images, tables and the shelf's settle, and on faults.
use Rattle.std.specs.Prelude.{◌≡◌, ℕ, List, [], ◌∷◌, ◌++◌, length, replicate, Ok, Err, codes, Result}
use Rattle.fault.specs.Fault.{fault, in_record}
use Rattle.fault.specs.declared.cause.Cause.TheVariants.{Header, Cut, BadRange, NoRoom}
use Rattle.fault.specs.declared.fault.Fault.{Fault}
use Rattle.stream.specs.Records.{Content, data_at, zeros_at, header, stream_bytes, metas}
use Rattle.stream.specs.Verdict.{verdict, check_answer}
use Rattle.listing.specs.Lists.{stream_text}
use Rattle.join.specs.Joins.{joined_stream}
use Rattle.store.specs.Stores.{Images, Outcome, done, refusal, write_outcome, zero_outcome}
use Rattle.store.specs.Memory.{flat_set}
use Rattle.paged.specs.Pages.{paged_set}
use Rattle.apply.specs.Applies.{apply_answer}
use Rattle.table.specs.Tables.{Table, empty_table, add_row}
use Rattle.shelf.specs.Outcomes.{CallOutcome, outcome, settle_outcome}

-- an example: a call with its arguments and its outcome
pub data Example : Type 0 where
  measures : (stream : List ℕ) (count : ℕ) → Example
  checks : (stream : List ℕ) → Result (Unit {0}) Fault → Example
  lists : (stream : List ℕ) → Result (List ℕ) Fault → Example
  joins : (earlier later : List ℕ) → Result (List ℕ) Fault → Example
  applies : (holds : Images) (image name stream : List ℕ) → Outcome → Example
  writes : (holds : Images) (image : List ℕ) (offset : ℕ) (bytes : List ℕ) → Outcome → Example
  zeroes : (holds : Images) (image : List ℕ) (offset count : ℕ) → Outcome → Example
  settles : (holds : Images) (table : Table) (bytes image : List ℕ) → CallOutcome → Example

abbrev pub Holds : Example → Type 0
Holds (measures stream count) = length stream ≡ count
Holds (checks stream answer) = check_answer (verdict stream) ≡ answer
Holds (lists stream text) = stream_text stream ≡ text
Holds (joins earlier later answer) = joined_stream earlier later ≡ answer
Holds (applies holds image name stream result) = apply_answer holds image name stream ≡ result
Holds (writes holds image offset bytes result) = write_outcome holds image offset bytes ≡ result
Holds (zeroes holds image offset count result) = zero_outcome holds image offset count ≡ result
Holds (settles holds table bytes image result) = settle_outcome holds table bytes image ≡ result

-- the canonical stream of names, a size and data records
abbrev pub stream : List ℕ → List ℕ → ℕ → List Content → List ℕ
stream from to size datas = stream_bytes (metas from to size ++ datas)

abbrev pub a : List ℕ
a = codes "a"

abbrev pub b : List ℕ
b = codes "b"

abbrev pub c : List ℕ
c = codes "c"

abbrev pub d : List ℕ
d = codes "d"

-- a difference that keeps all: from the state before the first snapshot to a, of size 0
abbrev pub smallest : List ℕ
smallest = stream [] a 0 []

-- a later write inside an earlier one: neither replaces the other whole, and parts that touch are
-- one record
abbrev pub four : List ℕ
four = stream a b 10 (data_at 2 (codes "WXYZ") ∷ [])

abbrev pub one_inside : List ℕ
one_inside = stream b c 10 (data_at 4 (codes "q") ∷ [])

abbrev pub four_joined : List ℕ
four_joined = stream a c 10 (data_at 2 (codes "WXqZ") ∷ [])

-- an image that is cut to 4 bytes and grows again: what grew back is zero
abbrev pub shrinks : List ℕ
shrinks = stream a b 4 []

abbrev pub grows : List ℕ
grows = stream b c 10 (data_at 8 (codes "k") ∷ [])

abbrev pub regrown : List ℕ
regrown = stream a c 10 (zeros_at 4 4 ∷ data_at 8 (codes "k") ∷ zeros_at 9 1 ∷ [])

-- and is then cut to 6: the bracketing does not matter
abbrev pub cut_again : List ℕ
cut_again = stream c d 6 []

abbrev pub grown_and_cut : List ℕ
grown_and_cut = stream b d 6 []

abbrev pub all_three : List ℕ
all_three = stream a d 6 (zeros_at 4 2 ∷ [])

abbrev pub ten_digits : List ℕ
ten_digits = codes "0123456789"

abbrev pub digits_regrown : List ℕ
digits_regrown = codes "0123" ++ (replicate 4 0 ++ (codes "k" ++ (0 ∷ [])))

abbrev pub regrown_text : List ℕ
regrown_text = codes "offset length kind" ++ (10 ∷ (codes "4 4 zero" ++ (10 ∷ (codes "8 1 data" ++ (10 ∷ (codes "9 1 zero" ++ (10 ∷ [])))))))

-- a range at the end of an image of 10 bytes, and one past it; the tag stands at 27
abbrev pub zeros_from_9 : ℕ → List ℕ
zeros_from_9 count = stream [] a 10 (zeros_at 9 count ∷ [])

-- a paged image: three map places, two pool pages, size 768, non-zero at 0 and 256
abbrev pub two_pages : Images
two_pages = paged_set (replicate 3 0) (replicate 512 0)

abbrev pub pages : List ℕ → List ℕ → List ℕ → List ℕ
pages first second third =
    (first ++ replicate 255 0) ++ ((second ++ replicate 255 0) ++ (third ++ replicate 255 0))

abbrev pub full : List ℕ
full = pages (codes "o") (codes "p") (0 ∷ [])

-- an entry that needs a third page at its second record
abbrev pub third_page : List ℕ
third_page = stream a b 768 (data_at 0 (codes "N") ∷ data_at 512 (codes "k") ∷ [])

abbrev pub one_entry : Table
one_entry = add_row (empty_table a) (length third_page) a b

-- the store refuses the second record: what the first wrote stands, and the entry stays
abbrev pub stopped_settle : CallOutcome
stopped_settle = record (outcome (Err (in_record 2 (fault NoRoom 512))) one_entry third_page) { image = pages (codes "N") (codes "p") (0 ∷ []) }

abbrev pub examples : List Example
examples =
    -- empty input, and the header alone
    checks [] (Err (fault Header 0))
    ∷ checks header (Err (fault Cut 12))
    -- header, t, s and e
    ∷ measures smallest 28
    ∷ checks smallest (Ok tt)
    -- joins
    ∷ joins four one_inside (Ok four_joined)
    ∷ measures four_joined 55
    ∷ joins shrinks grows (Ok regrown)
    ∷ measures regrown 86
    ∷ applies (flat_set ten_digits) ten_digits a regrown (done digits_regrown)
    ∷ joins regrown cut_again (Ok all_three)
    ∷ joins grows cut_again (Ok grown_and_cut)
    ∷ joins shrinks grown_and_cut (Ok all_three)
    -- the whole list of a join
    ∷ lists regrown (Ok regrown_text)
    -- a range that ends with the image, and one that passes it
    ∷ checks (zeros_from_9 1) (Ok tt)
    ∷ checks (zeros_from_9 2) (Err (fault BadRange 27))
    -- a third page that is not blank does not fit, until another is blank
    ∷ writes two_pages full 512 (codes "k") (refusal NoRoom 512 full)
    ∷ zeroes two_pages full 0 1 (done (pages (0 ∷ []) (codes "p") (0 ∷ [])))
    ∷ writes two_pages (pages (0 ∷ []) (codes "p") (0 ∷ [])) 512 (codes "k") (done (pages (0 ∷ []) (codes "p") (codes "k")))
    -- a settle that stops at its second record
    ∷ settles two_pages one_entry third_page full stopped_settle
    ∷ []
