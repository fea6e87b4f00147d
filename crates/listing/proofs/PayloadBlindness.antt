-- The list of a stream shows nothing of the payload.
use Rattle.std.proofs.Common.{◌≡◌, ℕ, zero, suc, ◌+◌, ◌-◌, ◌^◌, ◌≤◌, cond, ◌&&◌, eqb, ltb, leb, List, [], ◌∷◌, ◌++◌, map, length, take, drop, Some, None, Ok, Err, Result, sym, refl, ap, ◌∙◌, subst, ap₂, append_assoc, arith, length-append, length-take}
use mathlib.Core.List.{map-map}
use Rattle.std.specs.List.{range_with_len}
use Rattle.std.specs.Option.{option_map}
use Rattle.std.proofs.lemmas.List.{take_at, drop_at, take-append-le, drop-append-le, length-drop}
use Rattle.std.proofs.lemmas.Bool.{cond-true}
use Rattle.overlay.specs.Marks.{range_moves, range_alike}
use Rattle.overlay.specs.Runs.{runs_from}
use Rattle.overlay.specs.States.{state_over}
use Rattle.overlay.proofs.OverlayLaws.{mapped_over}
use Rattle.overlay.proofs.BufferRuns.{drop_further}
use Rattle.fault.specs.Fault.{and_then, fault}
use Rattle.fault.specs.declared.cause.Cause.{Cause}
use Rattle.fault.specs.declared.cause.Cause.TheVariants as causes
use Rattle.fault.specs.declared.fault.Fault.{Fault}
use Rattle.stream.specs.Records.{Content, image_size, data_at, record_bytes, records_bytes, header, size_in}
use Rattle.stream.specs.Bytes.{le, field}
use Rattle.stream.specs.Steps.{Pos, payload_range_of, step_of}
use Rattle.stream.specs.declared.records.Record.{Record}
use Rattle.stream.specs.declared.records.Record.TheVariants.{Write}
use Rattle.stream.specs.Verdict.{start, verdict, reads, reads_after, record_before, same}
use Rattle.stream.specs.Wellformed.{Leads, Good, rule_of, pos_past}
use Rattle.overlay.specs.declared.ranges.RangeMark.TheVariants as range
use Rattle.stream.specs.Meaning.{mark_of, record_state, records_state, cells, ranges}
use Rattle.stream.specs.Parts.{stream_ranges}
use Rattle.stream.specs.Rule.{State, late_rule}
use Rattle.stream.proofs.WrittenRecords.{begins, step_forth, read_forth, size_stays, length_positive}
use Rattle.stream.proofs.ReadRecords.{then_back, passes, ok_same, range_back}
use Rattle.stream.proofs.FoundRanges.{map_same, kind_cond}
use Rattle.stream.proofs.StreamRefusals.{header_tells}
use Rattle.listing.specs.Text.{listing}
use Rattle.listing.specs.Laws.{Alike, AllAlike, RestAlike, BlindToPayload}
use Rattle.listing.specs.Laws as laws

-- records in front of what follows
prefixed : List Content → Result (List Content) Fault → Result (List Content) Fault
prefixed [] o = o
prefixed (c ∷ cs) o = record_before c (prefixed cs o)

-- good records are read as themselves, and then what follows
leads_read : (cs : List Content) (k total : ℕ) (p q : Pos) (rest : List ℕ) → p.size ≤ 2 ^ 40 → Leads p cs q
    → reads (length cs + k) total p (records_bytes cs ++ rest) ≡ prefixed cs (reads k total q rest)
unfolding prefixed
leads_read [] k total p q rest z g = ap (λ n. reads n total p rest) (omega arith) ∙ ap (λ v. reads k total v rest) g
leads_read (c ∷ cs) k total p q rest z g =
    let s = g.0 in
    let one : suc (length cs) + k ≡ suc (length cs + k) = omega arith in
    ap (reads (suc (length cs) + k) total p) (append_assoc (record_bytes c) (records_bytes cs) rest)
    ∙ ap (λ n. reads n total p (record_bytes c ++ (records_bytes cs ++ rest))) one
    ∙ read_forth (length cs + k) total p c s (records_bytes cs ++ rest) (step_forth p c s (records_bytes cs ++ rest) z g.1 g.2)
    ∙ ap (record_before c) (leads_read cs k total (pos_past p c s) q rest (size_stays p c s z g.2) g.3)

few : (cs : List Content) → length cs ≤ length (records_bytes cs)
few [] = omega arith
few (c ∷ cs) = let i = few cs in let o = length_positive c in let l = length-append (record_bytes c) (records_bytes cs) in omega arith

-- the verdict on such a stream
verdict_is : (cs : List Content) (q : Pos) (rest : List ℕ) (total : ℕ) → Leads start cs q → total ≡ length (header ++ (records_bytes cs ++ rest))
    → verdict (header ++ (records_bytes cs ++ rest)) ≡ prefixed cs (reads (suc total - length cs) total q rest)
verdict_is cs q rest total g t =
    let xs = header ++ (records_bytes cs ++ rest) in
    let l = length-append header (records_bytes cs ++ rest) in
    let m = length-append (records_bytes cs) rest in
    let f = few cs in
    let fuel : suc total ≡ length cs + (suc total - length cs) = omega arith in
    cond-true (same (take 12 xs) header) (reads (suc (length xs)) (length xs) start (drop 12 xs)) (Err (fault causes.Header 0)) (header_tells xs (take_at header (records_bytes cs ++ rest) 12 refl))
    ∙ ap (reads (suc (length xs)) (length xs) start) (drop_at header (records_bytes cs ++ rest) 12 refl)
    ∙ ap (λ n. reads (suc n) n start (records_bytes cs ++ rest)) (sym t)
    ∙ ap (λ n. reads n total start (records_bytes cs ++ rest)) fuel
    ∙ leads_read cs (suc total - length cs) total start q rest (omega arith) g

-- records that differ in payload alone are as long, good at the same places, and lead to the same
-- place
alike_long : {c d : Content} → Alike c d → length (record_bytes c) ≡ length (record_bytes d)
alike_long laws.same = refl
alike_long (laws.payload {o} {bs} {cs} e) = omega arith

all_long : {cs ds : List Content} → AllAlike cs ds → length (records_bytes cs) ≡ length (records_bytes ds)
all_long laws.none = refl
all_long (laws.more {c} {d} {cs} {ds} a r) =
    let i = all_long r in let j = alike_long a in let l = length-append (record_bytes c) (records_bytes cs) in let m = length-append (record_bytes d) (records_bytes ds) in omega arith

alike_count : {cs ds : List Content} → AllAlike cs ds → length cs ≡ length ds
alike_count laws.none = refl
alike_count (laws.more a r) = ap suc (alike_count r)

alike_good : {c d : Content} (p : Pos) → Alike c d → Good p c → Good p d
alike_good p laws.same g = g
alike_good p (laws.payload e) g = let x = g.1 in let y = g.2 in (g.0, omega arith, omega arith, g.3)

alike_rule : {c d : Content} (s : State) → Alike c d → rule_of c s ≡ rule_of d s
alike_rule s laws.same = refl
alike_rule s (laws.payload e) = refl

-- where a reader stands after a data record of n bytes
abbrev data_past : Pos → State → ℕ → ℕ → Pos
data_past p s o n = record { place = p.place + 17 + n; state = s; size = p.size; end = o + n; count = p.count + 1 }

alike_moved : {c d : Content} (p : Pos) (s : State) → Alike c d → pos_past p c s ≡ pos_past p d s
alike_moved p s laws.same = refl
alike_moved p s (laws.payload {o} {bs} {cs} e) = ap (data_past p s o) e

all_lead : {cs ds : List Content} (p q : Pos) → AllAlike cs ds → Leads p cs q → Leads p ds q
all_lead p q laws.none g = g
all_lead p q (laws.more {c} {d} {cs} {ds} a r) g =
    let P : Pos → Type 0 = λ v. Leads v ds q in
    (g.0, sym (alike_rule p.state a) ∙ g.1, alike_good p a g.2, subst P (alike_moved p g.0 a) (all_lead (pos_past p c g.0) q r g.3))

-- and their ranges are the same: of a written record only its range shows
alike_given : {c d : Content} (p : ℕ) → Alike c d → option_map mark_of (record_state c p) ≡ option_map mark_of (record_state d p)
alike_given p laws.same = refl
alike_given p (laws.payload {o} {bs} {cs} e) =
    kind_cond (leb o p && ltb p (o + length bs)) _ ∙ ap (λ n. cond (leb o p && ltb p (o + n)) (Some range.Written) None) e ∙ sym (kind_cond (leb o p && ltb p (o + length cs)) _)

alike_size : {c d : Content} (cs : List Content) (n : ℕ) → Alike c d → size_in n (c ∷ cs) ≡ size_in n (d ∷ cs)
alike_size cs n laws.same = refl
alike_size cs n (laws.payload e) = refl

-- the size that one record leaves
size_step : (c : Content) (cs ds : List Content) → ((n : ℕ) → size_in n cs ≡ size_in n ds) → (n : ℕ) → size_in n (c ∷ cs) ≡ size_in n (c ∷ ds)
size_step (image_size m) cs ds h n = h m
size_step c cs ds h n = h n

-- and their ranges are the same
all_laid : {cs ds : List Content} (p : ℕ) → AllAlike cs ds → option_map mark_of (records_state cs p) ≡ option_map mark_of (records_state ds p)
all_laid p laws.none = refl
all_laid p (laws.more {c} {d} {cs} {ds} a r) =
    mapped_over mark_of (records_state cs p) (record_state c p) ∙ ap₂ state_over (all_laid p r) (alike_given p a) ∙ sym (mapped_over mark_of (records_state ds p) (record_state d p))

all_size : {cs ds : List Content} → AllAlike cs ds → (n : ℕ) → size_in n cs ≡ size_in n ds
all_size laws.none n = refl
all_size (laws.more {c} {d} {cs} {ds} a r) n = size_step c cs ds (all_size r) n ∙ alike_size ds n a

same_ranges : (cs ds : List Content) → AllAlike cs ds → ranges (cells cs) ≡ ranges (cells ds)
unfolding ranges cells
same_ranges cs ds a =
    ap (runs_from range_moves range_alike 0)
    (map-map (option_map mark_of) (records_state cs) (range_with_len 0 (size_in 0 cs))
    ∙ map_same (λ p. option_map mark_of (records_state cs p)) (λ p. option_map mark_of (records_state ds p)) (λ p. all_laid p a) (range_with_len 0 (size_in 0 cs))
    ∙ ap (λ n. map (λ p. option_map mark_of (records_state ds p)) (range_with_len 0 n)) (all_size a 0)
    ∙ sym (map-map (option_map mark_of) (records_state ds) (range_with_len 0 (size_in 0 ds))))

-- answers of reading that differ in payload alone
abbrev AlikeRead : Result (List Content) Fault → Result (List Content) Fault → Type 0
AlikeRead (Ok cs) (Ok ds) = AllAlike cs ds
AlikeRead (Err f) (Err g) = f ≡ g
AlikeRead o r = ⊥

all_same : (cs : List Content) → AllAlike cs cs
all_same [] = laws.none
all_same (c ∷ cs) = laws.more laws.same (all_same cs)

read_same : (o : Result (List Content) Fault) → AlikeRead o o
read_same (Ok cs) = all_same cs
read_same (Err f) = refl

before_alike : (c d : Content) (o r : Result (List Content) Fault) → Alike c d → AlikeRead o r → AlikeRead (record_before c o) (record_before d r)
before_alike c d (Ok cs) (Ok ds) a h = laws.more a h
before_alike c d (Err f) (Err g) a h = h
before_alike c d o r a h = absurd h

prefixed_alike : {cs ds : List Content} (o r : Result (List Content) Fault) → AllAlike cs ds → AlikeRead o r → AlikeRead (prefixed cs o) (prefixed ds r)
unfolding prefixed
prefixed_alike o r laws.none h = h
prefixed_alike o r (laws.more {c} {d} {cs} {ds} a all) h = before_alike c d (prefixed cs o) (prefixed ds r) a (prefixed_alike o r all h)

-- what is listed of a verdict
abbrev shown : Result (List Content) Fault → Result (List ℕ) Fault
shown o = and_then (and_then o (λ cs. Ok (ranges (cells cs)))) (λ rs. Ok (listing rs))

same_shown : (o r : Result (List Content) Fault) → AlikeRead o r → shown o ≡ shown r
same_shown (Ok cs) (Ok ds) h = ap (λ rs. Ok (listing rs)) (same_ranges cs ds h)
same_shown (Err f) (Err g) h = ap Err h
same_shown o r h = absurd h

-- the checks of a data record with payload, from how many bytes are left and what its fields state
abbrev range_in : Pos → ℕ → ℕ → ℕ → Result (ℕ × ℕ) Cause
range_in p left o n =
    cond (ltb 511 p.count) (Err causes.TooManyRecords)
    (cond (ltb left 17) (Err causes.Cut)
    (cond (eqb n 0) (Err causes.BadRange) (cond (ltb p.size (o + n)) (Err causes.BadRange) (cond (ltb o p.end) (Err causes.Overlap) (Ok (o, n))))))

abbrev payload_by : Pos → ℕ → ℕ → ℕ → Result (ℕ × ℕ) Cause
payload_by p left o n = and_then (range_in p left o n) (λ q. cond (ltb left (17 + q.1)) (Err causes.Cut) (Ok q))

-- the step of a data record, from its rule and its range
abbrev stepped : Pos → Result State Cause → Result (ℕ × ℕ) Cause → Result (Record × Pos) Cause
stepped q u v = and_then u (λ s. and_then v (λ r. Ok (Write r.0 r.1 (q.place + 17), data_past q s r.0 r.1)))

-- two data records of the same fields, and bytes of which the payload has no more than they state
module _ (fields bs cs more : List ℕ) (h : length fields ≡ 16) (e : length bs ≡ length cs) (within : length bs ≤ le (drop 8 fields)) where
  abbrev one : List ℕ
  one = 119 ∷ (fields ++ (bs ++ more))

  abbrev two : List ℕ
  two = 119 ∷ (fields ++ (cs ++ more))

  as_long : length one ≡ length two
  as_long = omega (arith, length-append fields (bs ++ more), length-append fields (cs ++ more), length-append bs more, length-append cs more)

  offsets : (xs : List ℕ) → field (119 ∷ (fields ++ xs)) 1 8 ≡ take 8 fields
  offsets xs = take-append-le 8 fields xs (omega arith)

  lengths : (xs : List ℕ) → field (119 ∷ (fields ++ xs)) 9 8 ≡ drop 8 fields
  lengths xs =
      ap (take 8) (drop-append-le 8 fields xs (omega arith))
      ∙ take_at (drop 8 fields) xs 8 (omega (arith, length-drop 8 fields))

  same_range : (p : Pos) → payload_range_of p one ≡ payload_range_of p two
  same_range p =
      let o = offsets (bs ++ more) ∙ sym (offsets (cs ++ more)) in
      let n = lengths (bs ++ more) ∙ sym (lengths (cs ++ more)) in
      ap (λ l. payload_by p l (le (field one 1 8)) (le (field one 9 8))) as_long ∙ ap₂ (λ x y. payload_by p (length two) (le x) (le y)) o n

  range_within : (p : Pos) (r : ℕ × ℕ) → payload_range_of p one ≡ Ok r → length bs ≤ r.1
  range_within p r k =
      let u = then_back _ _ r k in
      let b = range_back p one (le (field one 1 8)) (le (field one 9 8)) u.0 u.1 in
      let v = passes _ _ _ r u.2 in
      let w : u.0 ≡ r = ok_same u.0 r v.1 in
      let y : r.1 ≡ le (drop 8 fields) = ap (λ x. x.1) (sym w ∙ b.2) ∙ ap le (lengths (bs ++ more)) in
      subst (λ m. length bs ≤ m) (sym y) within

  rest_after : (n : ℕ) → length bs ≤ n → drop (17 + n) one ≡ drop (17 + n) two
  rest_after n l =
      let begun = 119 ∷ (fields ++ bs) in
      let other = 119 ∷ (fields ++ cs) in
      let a = length-append fields bs in
      let b = length-append fields cs in
      let d = drop_at begun more (17 + length bs) (omega arith) in
      let f = drop_at other more (17 + length bs) (omega arith) in
      let first : drop (17 + length bs) one ≡ drop (17 + length bs) two =
      ap (λ xs. drop (17 + length bs) (119 ∷ xs)) (sym (append_assoc fields bs more)) ∙ d ∙ sym f ∙ ap (λ xs. drop (17 + length bs) (119 ∷ xs)) (append_assoc fields cs more) in
      drop_further (17 + length bs) (17 + n) one two (omega arith) first

  -- they are refused alike, or read as records that differ in payload alone, before the same
  after_alike : (k total : ℕ) (q : Pos) (u : Result State Cause) (v : Result (ℕ × ℕ) Cause) → ((r : ℕ × ℕ) → v ≡ Ok r → length bs ≤ r.1)
      → AlikeRead (reads_after (reads k total) total q.place one (stepped q u v)) (reads_after (reads k total) total q.place two (stepped q u v))
  after_alike k total q (Err c) v w = refl
  after_alike k total q (Ok s) (Err c) w = refl
  after_alike k total q (Ok s) (Ok r) w =
      let next = data_past q s r.0 r.1 in
      let d : next.place - q.place ≡ 17 + r.1 = omega arith in
      let rests = ap (λ n. drop n one) d ∙ rest_after r.1 (w r refl) ∙ ap (λ n. drop n two) (sym d) in
      let follow = reads k total next (drop (next.place - q.place) one) in
      let long : length (field one 17 r.1) ≡ length (field two 17 r.1) =
      omega (arith, length-take r.1 (drop 17 one), length-take r.1 (drop 17 two), length-drop 17 one, length-drop 17 two, as_long) in
      before_alike (data_at r.0 (field one 17 r.1)) (data_at r.0 (field two 17 r.1)) follow (reads k total next (drop (next.place - q.place) two)) (laws.payload long)
      (subst (AlikeRead follow) (ap (reads k total next) rests) (read_same follow))

  next_alike : (k total : ℕ) (q : Pos) → AlikeRead (reads (suc k) total q one) (reads (suc k) total q two)
  next_alike k total q =
      let v = payload_range_of q one in
      let a : step_of q one ≡ stepped q (late_rule q.state) v = begins q 119 (fields ++ (bs ++ more)) in
      let b : step_of q two ≡ stepped q (late_rule q.state) v = begins q 119 (fields ++ (cs ++ more)) ∙ ap (stepped q (late_rule q.state)) (sym (same_range q)) in
      subst (λ x. AlikeRead (reads_after (reads k total) total q.place one x) (reads (suc k) total q two)) (sym a)
      (subst (λ y. AlikeRead (reads_after (reads k total) total q.place one (stepped q (late_rule q.state) v)) (reads_after (reads k total) total q.place two y)) (sym b)
      (after_alike k total q (late_rule q.state) v (range_within q)))

rest_long : {rest others : List ℕ} → RestAlike rest others → length rest ≡ length others
rest_long laws.same_rest = refl
rest_long (laws.next_payload fields bs cs more h e l) = as_long fields bs cs more h e l

rest_alike : {rest others : List ℕ} (k total : ℕ) (q : Pos) → RestAlike rest others → AlikeRead (reads k total q rest) (reads k total q others)
rest_alike {rest} k total q laws.same_rest = read_same (reads k total q rest)
rest_alike zero total q (laws.next_payload fields bs cs more h e l) = refl
rest_alike (suc k) total q (laws.next_payload fields bs cs more h e l) = next_alike fields bs cs more h e l k total q

pub blind_to_payload : BlindToPayload
unfolding stream_ranges
blind_to_payload cs ds q rest others a g r =
    let total = length (header ++ (records_bytes cs ++ rest)) in
    let l = length-append header (records_bytes cs ++ rest) in
    let m = length-append header (records_bytes ds ++ others) in
    let l2 = length-append (records_bytes cs) rest in
    let m2 = length-append (records_bytes ds) others in
    let e = all_long a in
    let n = alike_count a in
    let k = suc total - length cs in
    ap shown (verdict_is cs q rest total g refl)
    ∙ same_shown (prefixed cs (reads k total q rest)) (prefixed ds (reads k total q others)) (prefixed_alike (reads k total q rest) (reads k total q others) a (rest_alike k total q r))
    ∙ ap (λ j. shown (prefixed ds (reads (suc total - j) total q others))) n
    ∙ sym (ap shown (verdict_is ds q others total (all_lead start q a g) (omega (arith, rest_long r))))
