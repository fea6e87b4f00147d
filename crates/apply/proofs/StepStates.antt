-- The steps of ranges give each position what the records give it, and lie within the size. Rests
-- on the steps and on where records lie.
use Rattle.std.proofs.Common.{◌≡◌, ℕ, ◌+◌, ◌<◌, ◌≤◌, Bool, true, false, cond, ◌&&◌, ltb, leb, ◌⊎◌, List, [], ◌∷◌, ◌++◌, length, Some, None, Option, sym, refl, ap, ◌∙◌, ap₂, inl, inr, arith}
use Rattle.std.specs.Option.{option_map}
use Rattle.std.specs.List.{AllByRecursion}
use Rattle.std.proofs.ByRecursion.{All-append, All-map, All-weaker}
use Rattle.std.proofs.lemmas.List.{map-append}
use Rattle.std.proofs.lemmas.Bool.{cases_Bool, cases_lt, leb-true, ltb-true, leb-false, ltb-false, and_parts, and_cases, cond-true, cond-false, cond_both}
use Rattle.overlay.specs.declared.runs.Run.{Run}
use Rattle.overlay.specs.declared.ranges.RangeMark.{RangeMark}
use Rattle.overlay.specs.declared.ranges.RangeMark.TheVariants.{Zeroed, Written}
use Rattle.overlay.specs.Marks.{range_moves}
use Rattle.overlay.specs.Runs.{run_end, run_at, state_at, Rising}
use Rattle.overlay.specs.States.{state_over}
use Rattle.overlay.proofs.RunPositions.{over_assoc, over_none, run_inside, run_before, run_after, at_past, rising_le, at_before, none_some}
use Rattle.stream.specs.Records.{Content, data_at, zeros_at, offset_of}
use Rattle.stream.specs.Meaning.{Cell, zeroed, mark_of, record_state, records_state}
use Rattle.stream.specs.Sound as sound
use Rattle.stream.proofs.StreamMeaning.{within_before, within_after}
use Rattle.apply.specs.Steps.{with_number, writes, begun_in, range_records, steps_from}
use Rattle.apply.proofs.RangeParts.{begun_yes, begun_early, begun_late}
use Rattle.apply.proofs.StepImages.{Fits, StepFits, records_of}
use Rattle.apply.proofs.Spans.{span, spans, Beside}

-- whether a position lies in a range
abbrev covers : Run RangeMark → ℕ → Bool
covers r p = leb r.offset p && ltb p (run_end r)

covers_yes : (r : Run RangeMark) (p : ℕ) → covers r p ≡ true → (r.offset ≤ p) × (p < run_end r)
covers_yes r p e =
    let both = and_parts (leb r.offset p) (ltb p (run_end r)) e in
    (leb-true r.offset p both.0, ltb-true p (run_end r) both.1)

covers_no : (r : Run RangeMark) (p : ℕ) → covers r p ≡ false → (p < r.offset) ⊎ (run_end r ≤ p)
covers_no r p e =
    elim (and_cases (leb r.offset p) (ltb p (run_end r)) e) [
      | inl h ↦ inl (leb-false r.offset p h)
      | inr h ↦ inr (ltb-false p (run_end r) h)
    ]

-- a state that counts in a range alone, with one that lies outside of it, and with one inside
cond_none : (t : Bool) → ◌≡◌ {A = Option Cell} None (cond t None None)
cond_none true = refl
cond_none false = refl

cond_skip : (t : Bool) (x g : Option Cell) → (t ≡ true → g ≡ None) → cond t x None ≡ cond t (state_over x g) None
cond_skip true x g h = sym (ap (state_over x) (h refl) ∙ over_none x)
cond_skip false x g h = refl

cond_take : (t : Bool) (x g : Option Cell) → (t ≡ false → g ≡ None) → state_over (cond t x None) g ≡ cond t (state_over x g) None
cond_take true x g h = refl
cond_take false x g h = h refl

cond_same : (t : Bool) (x y : Option Cell) → (t ≡ true → x ≡ y) → cond t x None ≡ cond t y None
cond_same true x y h = h refl
cond_same false x y h = refl

-- one more record in front: it lies before or after the range and is left out, or inside it
writes_step : (r : Run RangeMark) (p n : ℕ) (m : RangeMark) (c : Content) (ds : List Content) → 1 ≤ n → Beside (span (offset_of c) n m) r
    → (p < offset_of c → record_state c p ≡ None) → (offset_of c + n ≤ p → record_state c p ≡ None)
    → (m ≡ r.mark → writes (c ∷ begun_in r.offset r.length ds) ≡ c ∷ writes (begun_in r.offset r.length ds))
    → records_state (writes (begun_in r.offset r.length ds)) p ≡ cond (covers r p) (records_state ds p) None
    → records_state (writes (begun_in r.offset r.length (c ∷ ds))) p ≡ cond (covers r p) (records_state (c ∷ ds) p) None
writes_step r p n m c ds some side before after inside ih =
    let out : begun_in r.offset r.length (c ∷ ds) ≡ begun_in r.offset r.length ds → (covers r p ≡ true → record_state c p ≡ None)
    → records_state (writes (begun_in r.offset r.length (c ∷ ds))) p ≡ cond (covers r p) (records_state (c ∷ ds) p) None =
    λ e none. ap (λ cs. records_state (writes cs) p) e ∙ ih ∙ cond_skip (covers r p) (records_state ds p) (record_state c p) none in
    elim side [
      | inl a ↦ out (begun_early r.offset r.length c ds (omega arith)) (λ y. after (omega (arith, (covers_yes r p y).0)))
      | inr a ↦ elim a [
        | inl a ↦ out (begun_late r.offset r.length c ds a) (λ y. before (omega (arith, (covers_yes r p y).1)))
        | inr a ↦
            let low = a.0 in
            let high = a.1 in
            ap (λ cs. records_state (writes cs) p) (begun_yes r.offset r.length c ds low (omega arith))
            ∙ ap (λ cs. records_state cs p) (inside a.2)
            ∙ ap (λ x. state_over x (record_state c p)) ih
            ∙ cond_take (covers r p) (records_state ds p) (record_state c p)
            (λ y.
            elim (covers_no r p y) [
              | inl k ↦ before (omega arith)
              | inr k ↦ after (omega arith)
            ])
      ]
    ]

-- the records that begin inside a written range give its positions what all records give them, and
-- no others anything
writes_in : (r : Run RangeMark) → r.mark ≡ Written → (p size : ℕ) (ds : List Content) (end : ℕ) → sound.RisingRecords size end ds → AllByRecursion (λ d. Beside d r) (spans ds)
    → records_state (writes (begun_in r.offset r.length ds)) p ≡ cond (covers r p) (records_state ds p) None
writes_in r w p size [] end h b = cond_none (covers r p)
writes_in r w p size (data_at o bytes ∷ ds) end h b =
    writes_step r p (length bytes) Written (data_at o bytes) ds h.1 b.0 (within_before o (length bytes) p _) (within_after o (length bytes) p _) (λ e. refl)
    (writes_in r w p size ds (o + length bytes) h.3 b.1)
writes_in r w p size (zeros_at o n ∷ ds) end h b =
    writes_step r p n Zeroed (zeros_at o n) ds h.1 b.0 (within_before o n p zeroed) (within_after o n p zeroed)
    (λ e. cc)
    (writes_in r w p size ds (o + n) h.3 b.1)
writes_in r w p size (d ∷ ds) end h b = absurd h

kind_zeroed : (s : Option Cell) → option_map mark_of s ≡ Some Zeroed → s ≡ Some zeroed
kind_zeroed (Some zeroed) e = refl
kind_zeroed s e = cc

-- what is handed over for a range gives its positions what the records give them, and no others
-- anything
handed_in : (m : RangeMark) (r : Run RangeMark) → r.mark ≡ m → (p size : ℕ) (ds : List Content) (end : ℕ) → sound.RisingRecords size end ds → AllByRecursion (λ d. Beside d r) (spans ds)
    → (covers r p ≡ true → option_map mark_of (records_state ds p) ≡ Some m)
    → records_state (range_records m r.offset r.length (begun_in r.offset r.length ds)) p ≡ cond (covers r p) (records_state ds p) None
handed_in Zeroed r e p size ds end h b k = cond_same (covers r p) (Some zeroed) (records_state ds p) (λ y. sym (kind_zeroed (records_state ds p) (k y)))
handed_in Written r e p size ds end h b k = writes_in r e p size ds end h b

pub laid_append : (xs ys : List Content) (p : ℕ) → records_state (xs ++ ys) p ≡ state_over (records_state ys p) (records_state xs p)
laid_append [] ys p = sym (over_none (records_state ys p))
laid_append (x ∷ xs) ys p = ap (λ t. state_over t (record_state x p)) (laid_append xs ys p) ∙ over_assoc (records_state ys p) (records_state xs p) (record_state x p)

records_numbered : (i : ℕ) (cs : List Content) → records_of (with_number i cs) ≡ cs
records_numbered i [] = refl
records_numbered i (c ∷ cs) = ap (λ xs. c ∷ xs) (records_numbered i cs)

-- a state where there is a range
abbrev ranged : Option RangeMark → Option Cell → Option Cell
ranged None s = None
ranged (Some m) s = s

steps_in : (p size : ℕ) (ds : List Content) (end : ℕ) → sound.RisingRecords size end ds → (rs : List (Run RangeMark)) (a b i : ℕ) → Rising a rs b → AllByRecursion (λ r. AllByRecursion (λ d. Beside d r) (spans ds)) rs
    → ((m : RangeMark) → state_at range_moves rs p ≡ Some m → option_map mark_of (records_state ds p) ≡ Some m)
    → records_state (records_of (steps_from i ds rs)) p ≡ ranged (state_at range_moves rs p) (records_state ds p)
steps_in p size ds end h [] a b i g s k = refl
steps_in p size ds end h (r ∷ rs) a b i g s k =
    let here = range_records r.mark r.offset r.length (begun_in r.offset r.length ds) in
    let later = steps_from (i + 1) ds rs in
    let L = records_state ds p in
    let inside : covers r p ≡ true → run_at range_moves r p ≡ Some r.mark = λ y. run_inside range_moves r p (covers_yes r p y).0 (covers_yes r p y).1 in
    let first : records_state here p ≡ cond (covers r p) L None =
    handed_in r.mark r refl p size ds end h s.0 (λ y. k r.mark (ap (λ o. state_over o (state_at range_moves rs p)) (inside y))) in
    let tail : (m : RangeMark) → state_at range_moves rs p ≡ Some m → option_map mark_of L ≡ Some m =
    λ m e.
    elim (cases_lt p (run_end r)) [
      | inl l ↦ none_some (state_at range_moves rs p) (at_before range_moves (run_end r) b rs p g.2 l) e
      | inr l ↦ k m (at_past range_moves r rs p l ∙ e)
    ] in
    let ih = steps_in p size ds end h rs (run_end r) b (i + 1) g.2 s.1 tail in
    let whole : records_state (records_of (with_number i here ++ later)) p ≡ state_over (ranged (state_at range_moves rs p) L) (cond (covers r p) L None) =
    ap (λ cs. records_state cs p) (map-append (λ x. x.1) (with_number i here) later ∙ ap (λ cs. cs ++ records_of later) (records_numbered i here))
    ∙ laid_append here (records_of later) p
    ∙ ap₂ state_over ih first in
    elim (cases_Bool (covers r p)) [
      | inl y ↦
          whole
          ∙ ap₂ (λ x z. state_over (ranged x L) z) (at_before range_moves (run_end r) b rs p g.2 (covers_yes r p y).1) (cond-true (covers r p) L None y)
          ∙ sym (ap (λ o. ranged (state_over o (state_at range_moves rs p)) L) (inside y))
      | inr n ↦
          let out : run_at range_moves r p ≡ None =
          elim (covers_no r p n) [
            | inl l ↦ run_before range_moves r p l
            | inr l ↦ run_after range_moves r p l
          ] in
          whole
          ∙ ap (state_over (ranged (state_at range_moves rs p) L)) (cond-false (covers r p) L None n)
          ∙ over_none (ranged (state_at range_moves rs p) L)
          ∙ sym (ap (λ o. ranged (state_over o (state_at range_moves rs p)) L) out)
    ]

ranged_all : (s : Option Cell) → ranged (option_map mark_of s) s ≡ s
ranged_all None = refl
ranged_all (Some s) = refl

-- from each record beside all ranges to each range beside all records
swapped : (rs ds : List (Run RangeMark)) → AllByRecursion (λ d. AllByRecursion (Beside d) rs) ds → AllByRecursion (λ r. AllByRecursion (λ d. Beside d r) ds) rs
swapped [] ds h = tt
swapped (r ∷ rs) ds h = (
  All-weaker (λ d. AllByRecursion (Beside d) (r ∷ rs)) (λ d. Beside d r) (λ d k. k.0) ds h,
  swapped rs ds (All-weaker (λ d. AllByRecursion (Beside d) (r ∷ rs)) (λ d. AllByRecursion (Beside d) rs) (λ d k. k.1) ds h),
)

-- the steps of ranges give a position what the records give it
pub steps_laid : (p size : ℕ) (ds : List Content) (end : ℕ) → sound.RisingRecords size end ds → (rs : List (Run RangeMark)) (b i : ℕ) → Rising 0 rs b → AllByRecursion (λ d. AllByRecursion (Beside d) rs) (spans ds)
    → state_at range_moves rs p ≡ option_map mark_of (records_state ds p) → records_state (records_of (steps_from i ds rs)) p ≡ records_state ds p
steps_laid p size ds end h rs b i g s k =
    steps_in p size ds end h rs 0 b i g (swapped rs (spans ds) s) (λ m e. sym k ∙ e) ∙ ap (λ o. ranged o (records_state ds p)) k ∙ ranged_all (records_state ds p)

-- the steps lie within the size
pub datas_fit : (ds : List Content) (size end : ℕ) → sound.RisingRecords size end ds → AllByRecursion (Fits size) ds
datas_fit [] size end h = tt
datas_fit (data_at o bytes ∷ ds) size end h = (h.2, datas_fit ds size (o + length bytes) h.3)
datas_fit (zeros_at o n ∷ ds) size end h = (h.2, datas_fit ds size (o + n) h.3)
datas_fit (d ∷ ds) size end h = absurd h

begun_fit : (size offset n : ℕ) (cs : List Content) → AllByRecursion (Fits size) cs → AllByRecursion (Fits size) (begun_in offset n cs)
begun_fit size offset n [] h = tt
begun_fit size offset n (c ∷ cs) h =
    cond_both _ (c ∷ begun_in offset n cs) (begun_in offset n cs) (AllByRecursion (Fits size)) (λ _. (h.0, begun_fit size offset n cs h.1)) (λ _. begun_fit size offset n cs h.1)

writes_fit : (size : ℕ) (cs : List Content) → AllByRecursion (Fits size) cs → AllByRecursion (Fits size) (writes cs)
writes_fit size [] h = tt
writes_fit size (data_at o bytes ∷ cs) h = (h.0, writes_fit size cs h.1)
writes_fit size (c ∷ cs) h = writes_fit size cs h.1

handed_fit : (size : ℕ) (m : RangeMark) (offset n : ℕ) (cs : List Content) → offset + n ≤ size → AllByRecursion (Fits size) cs → AllByRecursion (Fits size) (range_records m offset n cs)
handed_fit size Zeroed offset n cs l h = (l, tt)
handed_fit size Written offset n cs l h = writes_fit size cs h

pub steps_fit : (size : ℕ) (ds : List Content) → AllByRecursion (Fits size) ds → (rs : List (Run RangeMark)) (a i : ℕ) → Rising a rs size → AllByRecursion (StepFits size) (steps_from i ds rs)
steps_fit size ds h [] a i g = tt
steps_fit size ds h (r ∷ rs) a i g =
    let here = range_records r.mark r.offset r.length (begun_in r.offset r.length ds) in
    All-append (StepFits size) (with_number i here) (steps_from (i + 1) ds rs)
    (All-map (StepFits size) (λ c. (i, c)) here (handed_fit size r.mark r.offset r.length (begun_in r.offset r.length ds) (rising_le (run_end r) size rs g.2) (begun_fit size r.offset r.length ds h)))
    (steps_fit size ds h rs (run_end r) (i + 1) g.2)
