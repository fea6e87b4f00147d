-- What follows from an accepted call, and what a refused one leaves as it was.
use Rattle.std.proofs.Common.{◌≡◌, ℕ, ◌+◌, ◌^◌, ◌≤◌, ◌==◌, ◌||◌, Bool, true, false, cond, List, [], ◌∷◌, length, Ok, Err, Result, refl, ap, inl, inr, arith}
use Rattle.std.proofs.lemmas.Bool.{ltb-false, eqb-true, and_parts, or_cases}
use Rattle.std.proofs.lemmas.Bool.Decides.{nat_tests}
use Rattle.stream.specs.Bytes.{buffer_with}
use Rattle.stream.specs.Difference.{GoodFrom}
use Rattle.stream.specs.Records.{Content, record_bytes, offset_of}
use Rattle.stream.specs.Steps.{Pos}
use Rattle.stream.specs.Wellformed.{GoodName, GoodRange, pos_past}
use Rattle.stream.specs.Rule.{Data}
use Rattle.writer.specs.Fields.{opening, end_record}
use Rattle.writer.specs.Calls.{good_name, names_check, range_check, place_within, place_after_names, place_after_record, extent, writer_pos, call_answer, pos_after_names, Named, Recorded, Finished}
use Rattle.writer.specs.declared.recording.Recording.{Recording}
use Rattle.writer.specs.declared.ended.Ended.{Ended}
use Rattle.writer.specs.declared.refused.Refused.{Refused}
use Rattle.fault.specs.Fault.{and_then, err_by}
use Rattle.fault.specs.declared.fault.Fault.{Fault}
use Rattle.fault.specs.declared.cause.Cause.{Cause}
use Rattle.stream.proofs.ReadRecords.{passes}

-- a test that was passed
passes_first : {A E : Type 0} (b : Bool) (e : E) (y : Result A E) (x : A) → cond b y (Err e) ≡ Ok x → (b ≡ true) × (y ≡ Ok x)
passes_first true e y x h = (refl, h)
passes_first false e y x h = absurd cc

-- checks that were passed, and what followed them
then_back : {A B : Type 0} (r : Result A Cause) (g : Cause → Fault) (f : A → Result B Fault) (y : B)
    → and_then (err_by g r) f ≡ Ok y → (x : A) × (r ≡ Ok x) × (f x ≡ Ok y)
then_back (Ok x) g f y h = (x, refl, h)
then_back (Err c) g f y h = absurd cc

-- a call that was accepted, and one that was refused
accepted : {A B : Type 0} (on : A) (back : B) (o : Result ℕ Fault) (x : A) → ◌≡◌ {A = Result A (B × Fault)} (Ok x) (call_answer on back o)
    → (n : ℕ) × (o ≡ Ok n) × (x ≡ on)
accepted on back (Ok n) x h = (n, refl, cc)
accepted on back (Err f) x h = absurd cc

given_back : {A B : Type 0} (on : A) (back y : B) (f : Fault) (o : Result ℕ Fault) → ◌≡◌ {A = Result A (B × Fault)} (Err (y, f)) (call_answer on back o)
    → y ≡ back
given_back {A} {B} on back y f (Ok n) h = absurd cc
given_back {A} {B} on back y f (Err g) h = let e : ◌≡◌ {A = B × Fault} (y, f) (back, g) = cc in ap (λ t. t.0) e

reached : (room place n : ℕ) → place_within room place ≡ Ok n → place ≤ room
reached room place n h = ltb-false room place (passes _ _ _ n h).0

range_good : (p : Pos) (offset n : ℕ) (x : Unit {0}) → range_check p offset n ≡ Ok x → GoodRange p offset n
range_good p offset n x h = (grind (arith, nat_tests), grind (arith, nat_tests), grind (arith, nat_tests), grind (arith, nat_tests))

name_good : (name : List ℕ) → good_name name ≡ true → GoodName name
name_good name h = (grind (arith, nat_tests), grind (arith, nat_tests), grind (arith, nat_tests))

-- names and a size that passed their checks
from_good : (from : List ℕ) → (length from == 0 || good_name from) ≡ true → GoodFrom from
from_good [] h = tt
from_good (b ∷ bs) h = elim (or_cases _ _ h) [ inl e ↦ absurd (omega (arith, eqb-true (length (b ∷ bs)) 0 e)) | inr e ↦ name_good (b ∷ bs) e ]

names_good : (from to : List ℕ) (size : ℕ) (x : Unit {0}) → names_check from to size ≡ Ok x → GoodFrom from × GoodName to × (size ≤ 2 ^ 40)
names_good from to size x h =
    let a = passes_first _ _ _ x h in
    let g = and_parts _ _ a.0 in
    (from_good from g.0, name_good to g.1, ltb-false (2 ^ 40) size (passes _ _ _ x a.1).0)

-- names that were accepted
pub record OpenedBy (xs from to : List ℕ) (size : ℕ) (w : Recording) (ys : List ℕ) : Type 0 where
  pub from_good : GoodFrom from
  pub to_good : GoodName to
  pub sized : size ≤ 2 ^ 40
  pub stands : writer_pos w ≡ pos_after_names from to size
  pub within : length (opening from to size) ≤ length xs
  pub buffer : ys ≡ buffer_with xs 0 (opening from to size)

pub names_accepted : {xs from to ys : List ℕ} {size : ℕ} {w : Recording} → Named xs from to size (Ok w) ys → OpenedBy xs from to size w ys
names_accepted {xs} {from} {to} {ys} {size} {w} h =
    let a = accepted (pos_after_names from to size) 0 (place_after_names (length xs) from to size) (writer_pos w) h.answer in
    let b = then_back _ _ _ a.0 a.1 in
    let g = names_good from to size b.0 b.1 in
    record {
      from_good = g.0;
      to_good = g.1;
      sized = g.2;
      stands = a.2;
      within = reached (length xs) (length (opening from to size)) a.0 b.2;
      buffer = h.buffer;
    }

-- a data record that was accepted
pub record Grown (w : Recording) (xs : List ℕ) (c : Content) (v : Recording) (ys : List ℕ) : Type 0 where
  pub good : GoodRange (writer_pos w) (offset_of c) (extent c)
  pub stands : writer_pos v ≡ pos_past (writer_pos w) c Data
  pub within : w.place + length (record_bytes c) ≤ length xs
  pub buffer : ys ≡ buffer_with xs w.place (record_bytes c)

pub record_accepted : {w v : Recording} {xs ys : List ℕ} {c : Content} → Recorded w xs c (Ok v) ys → Grown w xs c v ys
record_accepted {w} {v} {xs} {ys} {c} h =
    let a = accepted (pos_past (writer_pos w) c Data) (writer_pos w) (place_after_record (writer_pos w) (length xs) (offset_of c) (extent c) (length (record_bytes c))) (writer_pos v) h.answer in
    let b = then_back _ _ _ a.0 a.1 in
    record {
      good = range_good (writer_pos w) (offset_of c) (extent c) b.0 b.1;
      stands = a.2;
      within = reached (length xs) (w.place + length (record_bytes c)) a.0 b.2;
      buffer = h.buffer;
    }

-- an end that was accepted
pub end_accepted : {w : Recording} {d : Ended} {xs ys : List ℕ} → Finished w xs (Ok d) ys
    → (d.length ≡ w.place + 1) × (w.place + 1 ≤ length xs) × (ys ≡ buffer_with xs w.place (end_record))
end_accepted {w} {d} {xs} {ys} h =
    let a = accepted (w.place + 1) (writer_pos w) (place_within (length xs) (w.place + 1)) d.length h.answer in
    (a.2, reached (length xs) (w.place + 1) a.0 a.1, h.buffer)

-- calls that were refused: the writer that is returned stands where it stood, and the buffer is as
-- it was
pub record Unchanged (w : Recording) (xs : List ℕ) (v : Recording) (ys : List ℕ) : Type 0 where
  pub stands : writer_pos v ≡ writer_pos w
  pub buffer : ys ≡ xs

pub record_refused : {w : Recording} {e : Refused Recording} {xs ys : List ℕ} {c : Content} → Recorded w xs c (Err e) ys → Unchanged w xs e.writer ys
record_refused {w} {e} {xs} {ys} {c} h =
    record {
      stands = given_back (pos_past (writer_pos w) c Data) (writer_pos w) (writer_pos e.writer) e.fault (place_after_record (writer_pos w) (length xs) (offset_of c) (extent c) (length (record_bytes c))) h.answer;
      buffer = h.buffer;
    }

pub end_refused : {w : Recording} {e : Refused Recording} {xs ys : List ℕ} → Finished w xs (Err e) ys → Unchanged w xs e.writer ys
end_refused {w} {e} {xs} {ys} h =
    record {
      stands = given_back (w.place + 1) (writer_pos w) (writer_pos e.writer) e.fault (place_within (length xs) (w.place + 1)) h.answer;
      buffer = h.buffer;
    }
