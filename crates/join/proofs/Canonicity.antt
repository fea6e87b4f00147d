-- A sound stream is canonical exactly if its metadata lie in order and it has the canonical length.
-- Assumes nothing.
use Rattle.std.proofs.Common.{◌≡◌, ℕ, ◌+◌, ◌-◌, ◌^◌, ◌<◌, ◌≤◌, Bool, true, false, ◌&&◌, eqb, List, [], ◌∷◌, ◌++◌, map, length, Some, sym, refl, ap, ◌∙◌, subst, arith, length-drop, length-take}
use Rattle.std.proofs.Props.{props}
use Rattle.std.proofs.Math.Logic.{∥∥₁_elim}
use Rattle.std.proofs.lemmas.List.{length-append}
use Rattle.std.proofs.lemmas.Bool.{and_parts, and_from, eqb-true, eq-eqb}
use Rattle.overlay.specs.declared.runs.Run.{Run}
use Rattle.overlay.specs.declared.ranges.RangeMark.TheVariants as range
use Rattle.overlay.specs.declared.payloads.PayloadMark.{PayloadMark}
use Rattle.overlay.specs.declared.payloads.PayloadMark.TheVariants.{Zeroed, Written}
use Rattle.overlay.specs.declared.payloads.Side.TheVariants.{Later}
use Rattle.overlay.specs.Marks.{payload_moves, range_of}
use Rattle.overlay.specs.Runs.{run_end, state_at, Rising, with_mark}
use Rattle.overlay.proofs.RunPositions.{at_inside, at_past, rising_le}
use Rattle.stream.specs.Bytes.{field}
use Rattle.stream.specs.Records.{Content, data_at, header, record_bytes, records_bytes, stream_bytes, metas, data_of, size_in}
use Rattle.stream.specs.Places.{run_record_by, run_record}
use Rattle.stream.specs.Gathered.{with_records, nothing_gathered}
use Rattle.stream.specs.Sound.{Sound}
use Rattle.stream.specs.Verdict.{same}
use Rattle.stream.specs.Meaning.{cells, ranges}
use Rattle.stream.specs.Parts.{parts_cells, PayloadIn, PayloadsIn}
use Rattle.stream.specs.Difference.{Difference, difference, content_of, canonical_records, canonical_bytes}
use Rattle.stream.specs.Streams.{stream_cells, stream_difference}
use Rattle.stream.specs.declared.stream.Stream.{Stream}
use Rattle.stream.proofs.ReadRecords.{same_back}
use Rattle.stream.proofs.StreamMeaning.{stands_for, encodings_append}
use Rattle.stream.proofs.SoundLists.{data_only, data_behind}
use Rattle.stream.proofs.PlacedRecords.{places_match, size_told}
use Rattle.writer.proofs.StreamHead.{length_opening}
use Rattle.join.specs.Lengths.{marked_length, records_length}
use Rattle.join.specs.Orders.{in_order}
use Rattle.stream.proofs.StreamRefusals.{same_refl}
use Rattle.join.proofs.Expressible.{sound_short}
use Rattle.stream.proofs.RangeCounts.{same_ranges}
use Rattle.join.proofs.TagOrder.{ordered, canonical_order}
use Rattle.stream.proofs.FoundRanges.{length_cells}
use Rattle.join.proofs.Payloads.{payload_held, moves_plain}
use Rattle.stream.proofs.GatheredRecords.{stream_both, difference_same}
use Rattle.join.proofs.Records.{length_marked, one_head, records_cost, length_canonical}

bool_same : (a b : Bool) → (a ≡ true → b ≡ true) → (b ≡ true → a ≡ true) → a ≡ b
bool_same true b f g = sym (f refl)
bool_same false true f g = g refl
bool_same false false f g = refl

-- the bytes of the records that runs stand for
length-run_record : (xs : List ℕ) (r : Run PayloadMark) (m : PayloadMark) → r.mark ≡ m → PayloadIn Later xs m r.length → length (record_bytes (run_record_by xs r.offset r.length m)) ≡ records_length (record { offset = r.offset; length = r.length; mark = range_of m } ∷ [])
length-run_record xs r Zeroed e h = refl
length-run_record xs r (Written s place) e h =
    let l : length (field xs place r.length) ≡ r.length = simp (length-take, length-drop) (omega (arith, h.1)) in
    omega (arith, length_marked range.Written r.offset r.length (field xs place r.length) l)

length-run_records : (xs : List ℕ) (rs : List (Run PayloadMark)) → PayloadsIn Later xs rs → length (records_bytes (map (run_record xs) rs)) ≡ records_length (map (with_mark range_of) rs)
length-run_records xs [] h = refl
length-run_records xs (r ∷ rs) h =
    omega (arith, length-append (record_bytes (run_record xs r)) (records_bytes (map (run_record xs) rs)), length-run_record xs r r.mark refl h.0, length-run_records xs rs h.1)

-- the record of a run's range has the payload that the run names
module _ (xs : List ℕ) (parts : List (Run PayloadMark)) (size : ℕ) (short : length xs < 2 ^ 64) where
  content_held : (r : Run PayloadMark) (m : PayloadMark) → PayloadIn Later xs m r.length → run_end r ≤ size
      → ((k : ℕ) → k < r.length → state_at payload_moves parts (r.offset + k) ≡ Some (payload_moves m k))
      → content_of (parts_cells xs xs parts size) (record { offset = r.offset; length = r.length; mark = range_of m }) ≡ run_record_by xs r.offset r.length m
  content_held r Zeroed h l each = refl
  content_held r (Written s place) h l each =
      let b = stream_both xs s in
      ap (data_at r.offset)
      (payload_held xs xs parts size s place r.offset r.length l (subst (λ v. place + r.length ≤ length v) (sym b) h.1)
      (λ k i. let u : place + k < 2 ^ 64 = omega (arith, h.1) in each k i ∙ ap (λ q. Some (Written s q)) (moves_plain place k u))
      ∙ ap (λ v. field v place r.length) b)

  contents_held : (a b : ℕ) (rs : List (Run PayloadMark)) → Rising a rs b → b ≤ size → PayloadsIn Later xs rs → ((p : ℕ) → a ≤ p → state_at payload_moves parts p ≡ state_at payload_moves rs p)
      → map (content_of (parts_cells xs xs parts size)) (map (with_mark range_of) rs) ≡ map (run_record xs) rs
  contents_held a b [] h l i e = refl
  contents_held a b (r ∷ rs) h l i e =
      let u = rising_le (run_end r) b rs h.2 in
      let one = content_held r r.mark i.0 (omega arith)
      (λ k lt.
      let w : a ≤ r.offset + k = omega (arith, h.0) in
      let d : r.offset + k - r.offset ≡ k = omega arith in
      e (r.offset + k) w ∙ (at_inside payload_moves r rs (r.offset + k) (omega arith) (omega arith)) ∙ ap (λ j. Some (payload_moves r.mark j)) d) in
      let more = contents_held (run_end r) b rs h.2 l i.1
      (λ p lt.
      let w : a ≤ p = omega (arith, h.0) in
      e p w ∙ (at_past payload_moves r rs p lt)) in
      ap (λ v. v ∷ map (content_of (parts_cells xs xs parts size)) (map (with_mark range_of) rs)) one ∙ ap (λ v. run_record xs r ∷ v) more

module _ (cs : List Content) (xs : List ℕ) (s : Sound cs) (e : xs ≡ stream_bytes cs) where
  abbrev said : Difference
  said = difference cs

  -- records in order that take as many bytes as the canonical ones are these
  records_canonical : length (canonical_bytes said) ≡ length xs → in_order xs said.from ≡ true → canonical_records said ≡ cs
  records_canonical lc o =
      let ds = s.datas in
      let n = size_in 0 cs in
      let M = metas said.from said.to n in
      let short : length xs < 2 ^ 64 = subst (λ v. length v < 2 ^ 64) (sym e) (sound_short cs s) in
      let g = with_records Later nothing_gathered 12 cs in
      let parts = g.runs in
      let st = stands_for Later cs xs s e short in
      let means = st.means xs xs refl in
      let fits : g.size < 2 ^ 64 = omega (arith, st.small) in
      let long : length (cells cs) ≡ g.size = sym (ap length means) ∙ length_cells xs xs parts g.size in
      let told : map (run_record xs) parts ≡ ds =
      ap (λ v. map (run_record v) parts) e ∙ (places_match Later cs).runs ∙ ap data_of s.whole ∙ data_behind s.metas ds s.good ∙ data_only ds (size_in 0 s.metas) 0 s.rising in
      let whole : cs ≡ M ++ ds = s.whole ∙ ap (λ v. v ++ ds) (ordered cs xs s e o) in
      let la : length xs ≡ length (stream_bytes (M ++ ds)) = ap length e ∙ ap (λ v. length (stream_bytes v)) whole in
      let lb = length-append header (records_bytes (M ++ ds) ++ (101 ∷ [])) in
      let lx = length-append (records_bytes (M ++ ds)) (101 ∷ []) in
      let ld : length (records_bytes (M ++ ds)) ≡ length (records_bytes M) + length (records_bytes ds) = ap length (encodings_append M ds) ∙ length-append (records_bytes M) (records_bytes ds) in
      let lo = length_opening said.from said.to n in
      let lh = length-append header (records_bytes M) in
      let lr = length_canonical said (omega arith) in
      let lp : length (records_bytes ds) ≡ records_length (map (with_mark range_of) parts) = sym (ap (λ v. length (records_bytes v)) told) ∙ length-run_records xs parts st.inside in
      let as_long : records_length (ranges (cells cs)) ≡ records_length (map (with_mark range_of) parts) = omega (arith, lc, lr, la, lb, lx, ld, lo, lh, lp) in
      let kinds : ranges (cells cs) ≡ map (with_mark range_of) parts =
      sym (ap ranges means) ∙ same_ranges marked_length one_head xs xs parts g.size fits st.rising (records_cost _ ∙ ap (λ v. records_length (ranges v)) means ∙ as_long ∙ sym (records_cost _)) in
      let datas : map (content_of (cells cs)) (ranges (cells cs)) ≡ ds =
      ap (map (content_of (cells cs))) kinds ∙ ap (λ v. map (content_of v) (map (with_mark range_of) parts)) (sym means)
      ∙ contents_held xs parts g.size short 0 g.size parts st.rising (omega arith) st.inside (λ p h. refl) ∙ told in
      ap (λ v. metas said.from said.to v ++ map (content_of (cells cs)) (ranges (cells cs))) (long ∙ size_told Later cs 12 nothing_gathered) ∙ ap (λ v. M ++ v) datas ∙ sym whole

  sound_test : (eqb (length (canonical_bytes said)) (length xs) && in_order xs said.from) ≡ same (canonical_bytes said) xs
  unfolding canonical_bytes
  sound_test =
      bool_same _ _
      (λ h.
      let both = and_parts (eqb (length (canonical_bytes said)) (length xs)) (in_order xs said.from) h in
      let is : canonical_bytes said ≡ xs = ap stream_bytes (records_canonical (eqb-true _ _ both.0) both.1) ∙ sym e in
      subst (λ v. same v xs ≡ true) (sym is) (same_refl xs))
      (λ h.
      let is = same_back (canonical_bytes said) xs h in
      and_from _ _ (eq-eqb _ _ (ap length is))
      (subst (λ v. in_order v said.from ≡ true) is (canonical_order said.from said.to (length (cells cs)) (map (content_of (cells cs)) (ranges (cells cs))))))

bool_set : IsSet Bool
bool_set = hlevel props

-- a stream that was read is canonical exactly if it has the canonical length and its metadata lie
-- in order
pub canonical_test : (s : Stream)
    → (eqb (length (canonical_bytes (stream_difference s))) (length s.bytes.now) && in_order s.bytes.now s.from.now) ≡ same (canonical_bytes (stream_difference s)) s.bytes.now
unfolding stream_cells
canonical_test s =
    let xs = s.bytes.now in
    ∥∥₁_elim s.was_read (bool_set _ _)
    (λ r.
    let o = r.1 in
    let is = difference_same (difference o.records) (stream_difference s) (sym o.from_is) (sym o.to_is) (sym (o.stands.means xs xs (stream_both xs r.0))) in
    subst (λ d. (eqb (length (canonical_bytes d)) (length xs) && in_order xs d.from) ≡ same (canonical_bytes d) xs) is (sound_test o.records xs o.sound o.whole))
