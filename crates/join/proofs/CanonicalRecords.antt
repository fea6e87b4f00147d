-- The canonical records of a difference are sound, and mean the difference. Assumes nothing.
use Rattle.std.proofs.Common.{◌≡◌, ℕ, ◌+◌, ◌-◌, ◌^◌, ◌<◌, ◌≤◌, List, [], ◌∷◌, ◌++◌, map, length, get_or, take, drop, Some, None, Ok, Option, sym, refl, ap, ◌∙◌, subst, ⊎_elim, arith, length-drop, length-take}
use Rattle.fault.specs.Fault.{and_then}
use Rattle.std.specs.List.{AllByRecursion, range_with_len}
use Rattle.std.specs.Option.{option_map}
use Rattle.std.proofs.lemmas.List.{length-map, get_or-map, get_or-take, get_or-drop, ext_get_or}
use Rattle.std.proofs.lemmas.List.FromFn.{length-map-range_with_len, get_or-map-range_with_len}
use Rattle.std.proofs.lemmas.Bool.{cases_lt}
use Rattle.overlay.specs.declared.runs.Run.{Run}
use Rattle.overlay.specs.declared.ranges.RangeMark.{RangeMark}
use Rattle.overlay.specs.declared.ranges.RangeMark.TheVariants as range
use Rattle.overlay.specs.Marks.{range_moves}
use Rattle.overlay.specs.States.{state_over}
use Rattle.overlay.specs.Runs.{run_end, state_at, Rising}
use Rattle.overlay.proofs.RunPositions.{over_none, at_inside, at_past, rising_le, at_before}
use Rattle.overlay.proofs.StateLists.{runs_states}
use Rattle.stream.specs.Records.{Content, metas, from_of, to_of, size_in}
use Rattle.stream.specs.Verdict.{verdict}
use Rattle.stream.specs.Wellformed.{GoodName}
use Rattle.stream.specs.Sound as sound
use Rattle.stream.specs.Sound.{GoodMeta, froms, tos, sizes, Sound}
use Rattle.stream.specs.Meaning.{Cell, zeroed, written, record_state, records_state, cells, mark_of, ranges}
use Rattle.stream.specs.Difference.{Difference, difference, meaning, byte_over, payload_at, range_content, content_of, canonical_records, canonical_bytes, GoodFrom, Expressible}
use Rattle.stream.proofs.WrittenRecords.{reads_back}
use Rattle.stream.proofs.SoundLists.{sound_exactly}
use Rattle.join.specs.Laws.{CanonicalStream}
use Rattle.stream.proofs.StreamMeaning.{within_in, size_kept}
use Rattle.join.proofs.Expressible.{data_from, data_to}
use Rattle.join.proofs.Payloads.{length_payload}
use Rattle.stream.proofs.FoundRanges.{ranges_runs}
use Rattle.join.proofs.Records.{ranges_rise}
use Rattle.stream.proofs.GatheredRecords.{difference_same, meaning_ok}

-- the metadata of a canonical stream
good_metas : (from to : List ℕ) (n : ℕ) → GoodFrom from → GoodName to → n ≤ 2 ^ 40 → AllByRecursion GoodMeta (metas from to n)
good_metas [] to n f t s = (t, (s, tt))
good_metas (b ∷ bs) to n f t s = (f, (t, (s, tt)))

one_each : (from to : List ℕ) (n : ℕ) → (froms (metas from to n) ≤ 1) × (tos (metas from to n) ≡ 1) × (sizes (metas from to n) ≡ 1) × (size_in 0 (metas from to n) ≡ n)
one_each [] to n = (omega arith, refl, refl, refl)
one_each (b ∷ bs) to n = (omega arith, refl, refl, refl)

-- what it says, before data records
pub said : (from to : List ℕ) (n : ℕ) (ds : List Content) (size end : ℕ) → sound.RisingRecords size end ds
    → (from_of [] (metas from to n ++ ds) ≡ from) × (to_of [] (metas from to n ++ ds) ≡ to) × (size_in 0 (metas from to n ++ ds) ≡ n)
said [] to n ds size end r = (data_from ds size end [] r, data_to ds size end to r, size_kept ds n size end r)
said (b ∷ bs) to n ds size end r = (data_from ds size end (b ∷ bs) r, data_to ds size end to r, size_kept ds n size end r)

laid_behind : (from to : List ℕ) (n : ℕ) (cs : List Content) (p : ℕ) → records_state (metas from to n ++ cs) p ≡ records_state cs p
laid_behind [] to n cs p = over_none _ ∙ over_none _
laid_behind (b ∷ bs) to n cs p = over_none _ ∙ over_none _ ∙ over_none _

-- a data record after an end
rise_one : (m : RangeMark) (o n : ℕ) (bs : List ℕ) (cs : List Content) (size end : ℕ) → length bs ≡ n → end ≤ o → 1 ≤ n → o + n ≤ size → sound.RisingRecords size (o + n) cs
    → sound.RisingRecords size end (range_content m o n bs ∷ cs)
rise_one range.Zeroed o n bs cs size end e h s l r = (h, s, l, r)
rise_one range.Written o n bs cs size end e h s l r = (h, omega arith, omega arith, subst (λ k. sound.RisingRecords size (o + k) cs) (sym e) r)

-- what it gives a position before, inside and after its range
given_before : (m : RangeMark) (o n : ℕ) (bs : List ℕ) (p : ℕ) → p < o → record_state (range_content m o n bs) p ≡ None
given_before range.Zeroed o n bs p h = grind arith
given_before range.Written o n bs p h = grind arith

given_after : (m : RangeMark) (o n : ℕ) (bs : List ℕ) (p : ℕ) → length bs ≡ n → o + n ≤ p → record_state (range_content m o n bs) p ≡ None
given_after range.Zeroed o n bs p e h = grind arith
given_after range.Written o n bs p e h = grind arith

zeroed_cell : (s : Option Cell) → Some range.Zeroed ≡ option_map mark_of s → Some zeroed ≡ s
zeroed_cell (Some zeroed) h = refl
zeroed_cell s h = cc

written_cell : (s : Option Cell) → Some range.Written ≡ option_map mark_of s → Some (written (byte_over 0 s)) ≡ s
written_cell (Some (written b)) h = refl
written_cell s h = cc

kept_cell : (s : Option Cell) → None ≡ option_map mark_of s → None ≡ s
kept_cell None h = refl
kept_cell (Some c) h = cc

module _ (ds : List (Option Cell)) where
  payload_byte : (o n p : ℕ) → o + n ≤ length ds → o ≤ p → p < o + n → get_or (payload_at ds o n) (p - o) 0 ≡ byte_over 0 (get_or ds p None)
  payload_byte o n p under h l =
      let k : p - o < n = omega arith in
      let i : p - o < length (take n (drop o ds)) = simp (length-take, length-drop) (omega arith) in
      let e : o + (p - o) ≡ p = omega arith in
      get_or-map (byte_over 0) (take n (drop o ds)) (p - o) None 0 i
      ∙ ap (byte_over 0) (get_or-take n (drop o ds) (p - o) None k ∙ get_or-drop o ds (p - o) None ∙ ap (λ j. get_or ds j None) e)

  given_in : (m : RangeMark) (o n p : ℕ) → o + n ≤ length ds → o ≤ p → p < o + n → Some m ≡ option_map mark_of (get_or ds p None)
      → record_state (range_content m o n (payload_at ds o n)) p ≡ get_or ds p None
  given_in range.Zeroed o n p under h l k = within_in o n p zeroed h l ∙ zeroed_cell (get_or ds p None) k
  given_in range.Written o n p under h l k =
      let e = length_payload ds o n under in
      within_in o (length (payload_at ds o n)) p _ h (omega arith)
      ∙ ap (λ b. Some (written b)) (payload_byte o n p under h l)
      ∙ written_cell (get_or ds p None) k

  records_rise : (a b : ℕ) (rs : List (Run RangeMark)) → Rising a rs b → b ≤ length ds → sound.RisingRecords b a (map (content_of ds) rs)
  records_rise a b [] h l = tt
  records_rise a b (r ∷ rs) h l =
      let u = rising_le (run_end r) b rs h.2 in
      rise_one r.mark r.offset r.length _ (map (content_of ds) rs) b a (length_payload ds r.offset r.length (omega arith)) h.0 h.1 u (records_rise (run_end r) b rs h.2 l)

  laid_before : (a b : ℕ) (rs : List (Run RangeMark)) (p : ℕ) → Rising a rs b → p < a → records_state (map (content_of ds) rs) p ≡ None
  laid_before a b [] p h l = refl
  laid_before a b (r ∷ rs) p h l =
      ap (λ s. state_over s (record_state (content_of ds r) p)) (laid_before (run_end r) b rs p h.2 (omega arith))
      ∙ given_before r.mark r.offset r.length _ p (omega arith)

  -- records of ranges that say of each position what the difference says give it the difference's
  -- state
  laid_ranges : (a b : ℕ) (rs : List (Run RangeMark)) → Rising a rs b → b ≤ length ds → (p : ℕ) → a ≤ p → p < length ds
      → state_at range_moves rs p ≡ option_map mark_of (get_or ds p None) → records_state (map (content_of ds) rs) p ≡ get_or ds p None
  laid_ranges a b [] h l p x y k = kept_cell (get_or ds p None) k
  laid_ranges a b (r ∷ rs) h l p x y k =
      let u = rising_le (run_end r) b rs h.2 in
      let c = content_of ds r in
      let cs = map (content_of ds) rs in
      ⊎_elim
      (λ i.
      ap (λ s. state_over s (record_state c p)) (laid_before (run_end r) b rs p h.2 (omega arith))
      ∙ given_before r.mark r.offset r.length _ p i
      ∙ kept_cell (get_or ds p None) (sym (at_before range_moves r.offset b (r ∷ rs) p ((omega arith), h.1, h.2) i) ∙ k))
      (λ i.
      ⊎_elim
      (λ j.
      ap (λ s. state_over s (record_state c p)) (laid_before (run_end r) b rs p h.2 j)
      ∙ given_in r.mark r.offset r.length p (omega arith) i j (sym ((at_inside range_moves r rs p i j)) ∙ k))
      (λ j.
      ap (λ s. state_over (records_state cs p) s) (given_after r.mark r.offset r.length _ p (length_payload ds r.offset r.length (omega arith)) j)
      ∙ over_none (records_state cs p)
      ∙ laid_ranges (run_end r) b rs h.2 l p j y (sym ((at_past range_moves r rs p j)) ∙ k))
      (cases_lt p (run_end r)))
      (cases_lt p r.offset)

-- the canonical records of a difference that a stream can express
module _ (d : Difference) (x : Expressible d) where
  expressed_rise : sound.RisingRecords (length d.cells) 0 (map (content_of d.cells) (ranges d.cells))
  expressed_rise = records_rise d.cells 0 (length d.cells) (ranges d.cells) (ranges_rise d.cells (omega (arith, x.small))) (omega arith)

  pub expressed_sound : Sound (canonical_records d)
  expressed_sound =
      let n = length d.cells in
      let ms = metas d.from d.to n in
      let rs = ranges d.cells in
      let one = one_each d.from d.to n in
      record {
        metas = ms;
        datas = map (content_of d.cells) rs;
        whole = refl;
        good = good_metas d.from d.to n x.from_good x.to_good x.small;
        one_from = one.0;
        one_to = one.1;
        one_size = one.2;
        rising = subst (λ z. sound.RisingRecords z 0 (map (content_of d.cells) rs)) (sym one.3) expressed_rise;
        few = omega (arith, length-map rs (content_of d.cells), x.few);
      }

  expressed_cells : cells (canonical_records d) ≡ d.cells
  unfolding cells
  expressed_cells =
      let ds = d.cells in
      let n = length d.cells in
      let rs = ranges d.cells in
      let data' = map (content_of d.cells) rs in
      let cs = canonical_records d in
      let z : size_in 0 cs ≡ n = (said d.from d.to n data' n 0 expressed_rise).2 in
      let lm = length-map ds (option_map mark_of) in
      let fits : length d.cells < 2 ^ 64 = omega (arith, x.small) in
      let tell = runs_states range_moves (map (option_map mark_of) ds) rs (ranges_runs ds fits) in
      ap (λ k. map (records_state cs) (range_with_len 0 k)) z
      ∙ ext_get_or None (map (records_state cs) (range_with_len 0 n)) ds (length-map-range_with_len (records_state cs) 0 n)
      (λ p h.
      let l : p < length d.cells = omega (arith, length-map-range_with_len (records_state cs) 0 n) in
      let m : p < length (map (option_map mark_of) d.cells) = omega arith in
      get_or-map-range_with_len (records_state cs) 0 n p p None l (omega arith)
      ∙ laid_behind d.from d.to n data' p
      ∙ laid_ranges ds 0 n rs (ranges_rise ds fits) (omega arith) p (omega arith) l (tell.paints p m ∙ get_or-map (option_map mark_of) ds p None None l))

  pub expressed_means : difference (canonical_records d) ≡ d
  expressed_means =
      let n = length d.cells in
      let it = said d.from d.to n (map (content_of d.cells) (ranges d.cells)) n 0 expressed_rise in
      difference_same _ d it.0 it.1 expressed_cells

  pub expressed_read : verdict (canonical_bytes d) ≡ Ok (canonical_records d)
  unfolding canonical_bytes
  expressed_read = reads_back (canonical_records d) ((sound_exactly (canonical_records d)).1 expressed_sound)

  -- the canonical stream means the difference
  pub expressed_meaning : meaning (canonical_bytes d) ≡ Ok d
  expressed_meaning = meaning_ok (canonical_bytes d) (canonical_records d) expressed_read ∙ ap Ok expressed_means

  pub canonical_law : CanonicalStream d
  canonical_law = record {
    reads_back = expressed_read;
    means = expressed_means;
    own = ap (λ o. and_then o (λ e. Ok (canonical_bytes e))) expressed_meaning;
  }
