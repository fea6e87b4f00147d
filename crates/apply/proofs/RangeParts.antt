-- The parts that begin inside a range lie side by side, after those of the ranges before it. Rests
-- on the steps and on rising runs.
use Rattle.std.proofs.Common.{◌≡◌, ℕ, zero, suc, ◌+◌, ◌<◌, ◌≤◌, ◌&&◌, ltb, leb, List, [], ◌∷◌, ◌++◌, map, length, get_or, take, drop, sym, refl, ap, ◌∙◌, ap₂, inl, inr, one-add, arith}
use Rattle.std.specs.List.{prefix_len}
use Rattle.std.proofs.lemmas.List.{drop_more}
use Rattle.std.proofs.lemmas.Bool.{cases_lt, lt-ltb, le-ltb, le-leb, lt-leb, cond-true, cond-false, and_from, and_left, and_right}
use Rattle.overlay.specs.declared.runs.Run.{Run}
use Rattle.overlay.specs.declared.ranges.RangeMark.{RangeMark}
use Rattle.overlay.specs.declared.payloads.PayloadMark.{PayloadMark}
use Rattle.overlay.specs.declared.payloads.PayloadMark.TheVariants.{Zeroed, Written}
use Rattle.overlay.specs.declared.payloads.Side.{Side}
use Rattle.overlay.specs.Runs.{run_end, Rising}
use Rattle.overlay.proofs.RunPositions.{rising_lower, rising_drop}
use Rattle.stream.specs.Records.{Content, offset_of}
use Rattle.stream.specs.Places.{run_record, run_record_by}
use Rattle.stream.specs.Parts.{PayloadIn, PayloadsIn}
use Rattle.apply.specs.Steps.{with_number, range_records, begun_in, steps_from}
use Rattle.apply.specs.Read.{begins_before, parts_before, parts_from}

begins_by : (xs : List ℕ) (o n : ℕ) (m : PayloadMark) → offset_of (run_record_by xs o n m) ≡ o
begins_by xs o n Zeroed = refl
begins_by xs o n (Written side place) = refl

-- a part begins where its record does
begins_held : (xs : List ℕ) (r : Run PayloadMark) → offset_of (run_record xs r) ≡ r.offset
begins_held xs r = begins_by xs r.offset r.length r.mark

-- a record that begins inside a range, before it, and after it
module _ (offset n : ℕ) (c : Content) (cs : List Content) where
  pub begun_yes : offset ≤ offset_of c → offset_of c < offset + n → begun_in offset n (c ∷ cs) ≡ c ∷ begun_in offset n cs
  begun_yes h l =
      cond-true (leb offset (offset_of c) && ltb (offset_of c) (offset + n)) _ _
      (and_from (leb offset (offset_of c)) (ltb (offset_of c) (offset + n)) (le-leb offset (offset_of c) h) (lt-ltb (offset_of c) (offset + n) l))

  pub begun_early : offset_of c < offset → begun_in offset n (c ∷ cs) ≡ begun_in offset n cs
  begun_early h =
      cond-false (leb offset (offset_of c) && ltb (offset_of c) (offset + n)) _ _ (and_left (leb offset (offset_of c)) (ltb (offset_of c) (offset + n)) (lt-leb offset (offset_of c) h))

  pub begun_late : offset + n ≤ offset_of c → begun_in offset n (c ∷ cs) ≡ begun_in offset n cs
  begun_late h =
      cond-false (leb offset (offset_of c) && ltb (offset_of c) (offset + n)) _ _ (and_right (leb offset (offset_of c)) (ltb (offset_of c) (offset + n)) (le-ltb (offset_of c) (offset + n) h))

-- how many parts at the front begin before a position
module _ (p : ℕ) (r : Run PayloadMark) (rs : List (Run PayloadMark)) where
  leading_yes : r.offset < p → prefix_len (begins_before p) (r ∷ rs) ≡ suc (prefix_len (begins_before p) rs)
  leading_yes h = cond-true (ltb r.offset p) _ _ (lt-ltb r.offset p h) ∙ one-add (prefix_len (begins_before p) rs)

  leading_no : p ≤ r.offset → prefix_len (begins_before p) (r ∷ rs) ≡ 0
  leading_no h = cond-false (ltb r.offset p) _ _ (le-ltb r.offset p h)

-- the first part begins before a position, or not
since_yes : (p : ℕ) (r : Run PayloadMark) (rs : List (Run PayloadMark)) → r.offset < p → parts_from p (r ∷ rs) ≡ parts_from p rs
since_yes p r rs h = ap (λ k. drop k (r ∷ rs)) (leading_yes p r rs h)

since_no : (p : ℕ) (r : Run PayloadMark) (rs : List (Run PayloadMark)) → p ≤ r.offset → parts_from p (r ∷ rs) ≡ r ∷ rs
since_no p r rs h = ap (λ k. drop k (r ∷ rs)) (leading_no p r rs h)

-- parts that begin before a range say nothing of it
begun_since : (xs : List ℕ) (p offset n : ℕ) (rs : List (Run PayloadMark)) → p ≤ offset → begun_in offset n (map (run_record xs) (parts_from p rs)) ≡ begun_in offset n (map (run_record xs) rs)
begun_since xs p offset n [] l = refl
begun_since xs p offset n (r ∷ rs) l =
    elim (cases_lt r.offset p) [
      | inl h ↦ ap (λ ys. begun_in offset n (map (run_record xs) ys)) (since_yes p r rs h) ∙ begun_since xs p offset n rs l ∙ sym (begun_early offset n (run_record xs r) (map (run_record xs) rs) (let e = begins_held xs r in omega arith))
      | inr h ↦ ap (λ ys. begun_in offset n (map (run_record xs) ys)) (since_no p r rs h)
    ]

-- nor of the ranges that follow
pub steps_since : (xs : List ℕ) (p b i : ℕ) (parts : List (Run PayloadMark)) (rs : List (Run RangeMark)) → Rising p rs b
    → steps_from i (map (run_record xs) (parts_from p parts)) rs ≡ steps_from i (map (run_record xs) parts) rs
steps_since xs p b i parts [] h = refl
steps_since xs p b i parts (r ∷ rs) h =
    ap₂ (λ cs ss. with_number i (range_records r.mark r.offset r.length cs) ++ ss)
    (begun_since xs p r.offset r.length parts h.0)
    (steps_since xs p b (i + 1) parts rs (rising_lower (run_end r) p b rs h.2 (let a = h.0 in omega arith)))

-- none begins inside a range where the parts begin after it
begun_none : (xs : List ℕ) (offset n a b : ℕ) (rs : List (Run PayloadMark)) → Rising a rs b → offset + n ≤ a → begun_in offset n (map (run_record xs) rs) ≡ []
begun_none xs offset n a b [] h l = refl
begun_none xs offset n a b (r ∷ rs) h l =
    begun_late offset n (run_record xs r) (map (run_record xs) rs) (let g = h.0 in let e = begins_held xs r in omega arith) ∙ begun_none xs offset n (run_end r) b rs h.2 (let g = h.0 in omega arith)

-- where no part begins before a range, those that begin inside it are the first ones
begun_front : (xs : List ℕ) (offset n a b : ℕ) (rs : List (Run PayloadMark)) → Rising a rs b → offset ≤ a
    → begun_in offset n (map (run_record xs) rs) ≡ map (run_record xs) (take (prefix_len (begins_before (offset + n)) rs) rs)
begun_front xs offset n a b [] h l = refl
begun_front xs offset n a b (r ∷ rs) h l =
    elim (cases_lt r.offset (offset + n)) [
      | inl k ↦
          begun_yes offset n (run_record xs r) (map (run_record xs) rs) (let g = h.0 in let e = begins_held xs r in omega arith) (let e = begins_held xs r in omega arith)
          ∙ ap (λ cs. run_record xs r ∷ cs) (begun_front xs offset n (run_end r) b rs h.2 (let g = h.0 in omega arith))
          ∙ sym (ap (λ j. map (run_record xs) (take j (r ∷ rs))) (leading_yes (offset + n) r rs k))
      | inr k ↦
          begun_late offset n (run_record xs r) (map (run_record xs) rs) (let e = begins_held xs r in omega arith)
          ∙ begun_none xs offset n (run_end r) b rs h.2 (omega arith)
          ∙ sym (ap (λ j. map (run_record xs) (take j (r ∷ rs))) (leading_no (offset + n) r rs k))
    ]

-- the parts that begin inside a range
pub begun_are : (xs : List ℕ) (offset n a b : ℕ) (rs : List (Run PayloadMark)) → Rising a rs b
    → begun_in offset n (map (run_record xs) rs) ≡ map (run_record xs) (parts_before (offset + n) (parts_from offset rs))
begun_are xs offset n a b [] h = refl
begun_are xs offset n a b (r ∷ rs) h =
    elim (cases_lt r.offset offset) [
      | inl k ↦
          begun_early offset n (run_record xs r) (map (run_record xs) rs) (let e = begins_held xs r in omega arith)
          ∙ begun_are xs offset n (run_end r) b rs h.2
          ∙ sym (ap (λ ys. map (run_record xs) (parts_before (offset + n) ys)) (since_yes offset r rs k))
      | inr k ↦
          begun_front xs offset n r.offset b (r ∷ rs) (omega arith, h.1, h.2) k
          ∙ sym (ap (λ ys. map (run_record xs) (parts_before (offset + n) ys)) (since_no offset r rs k))
    ]

-- the range at i, and those after it
pub rising_at : (rs : List (Run RangeMark)) (i : ℕ) (d : Run RangeMark) (b : ℕ) → i < length rs → Rising 0 rs b → Rising 0 (get_or rs i d ∷ drop (i + 1) rs) b
rising_at rs i d b l h = rw (drop_more rs i d l) at (rising_drop b i rs h)

-- the payloads of a part, and of some parts
pub payload_getD : (side : Side) (xs : List ℕ) (rs : List (Run PayloadMark)) (i : ℕ) (d : Run PayloadMark) → PayloadsIn side xs rs → i < length rs
    → PayloadIn side xs (get_or rs i d).mark (get_or rs i d).length
payload_getD side xs [] i d h l = absurd (omega arith)
payload_getD side xs (r ∷ rs) zero d h l = h.0
payload_getD side xs (r ∷ rs) (suc i) d h l = payload_getD side xs rs i d h.1 (omega arith)

pub payloads_drop : (side : Side) (xs : List ℕ) (n : ℕ) (rs : List (Run PayloadMark)) → PayloadsIn side xs rs → PayloadsIn side xs (drop n rs)
payloads_drop side xs zero rs h = h
payloads_drop side xs (suc n) [] h = tt
payloads_drop side xs (suc n) (r ∷ rs) h = payloads_drop side xs n rs h.1

pub payloads_take : (side : Side) (xs : List ℕ) (n : ℕ) (rs : List (Run PayloadMark)) → PayloadsIn side xs rs → PayloadsIn side xs (take n rs)
payloads_take side xs zero rs h = tt
payloads_take side xs (suc n) [] h = tt
payloads_take side xs (suc n) (r ∷ rs) h = (h.0, payloads_take side xs n rs h.1)

-- the steps of the range at i are those of the parts that begin inside it, and those of the ranges
-- after it are of the parts after it
pub window_steps : (bytes own : List ℕ) (left : List (Run PayloadMark)) (b n : ℕ) (rs : List (Run RangeMark)) (i : ℕ) (d : Run RangeMark) (size stop : ℕ) (begun inside behind : List (Run PayloadMark))
    → own ≡ bytes → i < length rs → Rising 0 left b → Rising 0 rs size → stop ≡ run_end (get_or rs i d)
    → begun ≡ parts_from (get_or rs i d).offset left → inside ≡ parts_before stop begun → behind ≡ parts_from stop begun
    → steps_from n (map (run_record bytes) left) (drop i rs)
    ≡ with_number n (range_records (get_or rs i d).mark (get_or rs i d).offset (get_or rs i d).length (map (run_record own) inside))
    ++ steps_from (n + 1) (map (run_record bytes) behind) (drop (i + 1) rs)
window_steps bytes own left b n rs i d size stop begun inside behind same l rising rise ends from here end =
    let r = get_or rs i d in
    let rest = drop (i + 1) rs in
    let later = (rising_at rs i d size l rise).2 in
    let cut : inside ≡ parts_before (run_end r) (parts_from r.offset left) = here ∙ ap₂ parts_before ends from in
    let on : behind ≡ parts_from (run_end r) (parts_from r.offset left) = end ∙ ap₂ parts_from ends from in
    ap (steps_from n (map (run_record bytes) left)) (drop_more rs i d l)
    ∙ ap₂ (λ cs ss. with_number n (range_records r.mark r.offset r.length cs) ++ ss)
    (begun_are bytes r.offset r.length 0 b left rising ∙ sym (ap₂ (λ xs ps. map (run_record xs) ps) same cut))
    (sym (steps_since bytes r.offset size (n + 1) left rest (rising_lower (run_end r) r.offset size rest later (omega arith)))
    ∙ sym (steps_since bytes (run_end r) size (n + 1) (parts_from r.offset left) rest later)
    ∙ ap (λ ys. steps_from (n + 1) (map (run_record bytes) ys) rest) (sym on))
