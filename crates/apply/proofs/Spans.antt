-- Each data record lies in one range of its kind, and in no other. Rests on canonical runs, and on
-- what records give a position.
use Rattle.std.proofs.Common.{◌≡◌, ℕ, ◌+◌, ◌<◌, ◌≤◌, ◌&&◌, ltb, leb, ◌⊎◌, List, [], ◌∷◌, length, Some, None, Option, sym, refl, ap, ◌∙◌, inl, inr, arith}
use Rattle.std.specs.Option.{option_map}
use Rattle.std.specs.List.{AllByRecursion}
use Rattle.std.proofs.lemmas.Bool.{cases_lt}
use Rattle.overlay.specs.declared.runs.Run.{Run}
use Rattle.overlay.specs.declared.ranges.RangeMark.{RangeMark}
use Rattle.overlay.specs.declared.ranges.RangeMark.TheVariants.{Zeroed, Written}
use Rattle.overlay.specs.Marks.{range_moves}
use Rattle.overlay.specs.Runs.{run_end, run_at, state_at, Rising, Apart}
use Rattle.overlay.specs.States.{state_over}
use Rattle.overlay.proofs.Uniqueness.{stops}
use Rattle.overlay.proofs.RunPositions.{over_none, run_after, at_inside, at_past, rising_le, at_before, none_some, some_same}
use Rattle.stream.specs.Records.{Content, data_at, zeros_at}
use Rattle.stream.specs.Meaning.{Cell, mark_of, record_state, records_state}
use Rattle.stream.specs.Sound as sound
use Rattle.stream.proofs.FoundRanges.{kind_cond}

abbrev pub span : ℕ → ℕ → RangeMark → Run RangeMark
span offset n mark = record { offset = offset; length = n; mark = mark }

-- the ranges of data records, one for each
abbrev pub spans : List Content → List (Run RangeMark)
spans [] = []
spans (data_at offset bytes ∷ cs) = span offset (length bytes) Written ∷ spans cs
spans (zeros_at offset n ∷ cs) = span offset n Zeroed ∷ spans cs
spans (c ∷ cs) = spans cs

pub spans_rise : (ds : List Content) (size end : ℕ) → end ≤ size → sound.RisingRecords size end ds → Rising end (spans ds) size
spans_rise [] size end l h = l
spans_rise (data_at o bytes ∷ ds) size end l h = (h.0, h.1, spans_rise ds size (o + length bytes) h.2 h.3)
spans_rise (zeros_at o n ∷ ds) size end l h = (h.0, h.1, spans_rise ds size (o + n) h.2 h.3)
spans_rise (d ∷ ds) size end l h = absurd h

pub kind_none : (s : Option Cell) → option_map mark_of s ≡ None → s ≡ None
kind_none None e = refl
kind_none (Some s) e = cc

-- the kind of a position, from the first record and those after it
kind_over : (r : Run RangeMark) (rs : List (Run RangeMark)) (b p : ℕ) (state rest : Option Cell) → Rising (run_end r) rs b
    → option_map mark_of state ≡ run_at range_moves r p → option_map mark_of rest ≡ state_at range_moves rs p
    → option_map mark_of (state_over rest state) ≡ state_over (run_at range_moves r p) (state_at range_moves rs p)
kind_over r rs b p state rest h e f =
    elim (cases_lt p (run_end r)) [
      | inl l ↦
          let none : state_at range_moves rs p ≡ None = at_before range_moves (run_end r) b rs p h l in
          ap (λ t. option_map mark_of (state_over t state)) (kind_none rest (f ∙ none))
          ∙ e ∙ sym (over_none (run_at range_moves r p)) ∙ ap (state_over (run_at range_moves r p)) (sym none)
      | inr l ↦
          let none : run_at range_moves r p ≡ None = run_after range_moves r p l in
          ap (λ t. option_map mark_of (state_over rest t)) (kind_none state (e ∙ none))
          ∙ ap (option_map mark_of) (over_none rest) ∙ f ∙ ap (λ t. state_over t (state_at range_moves rs p)) (sym none)
    ]

-- the kind that records give a position is that of the span over it
pub spans_kind : (ds : List Content) (size end p : ℕ) → end ≤ size → sound.RisingRecords size end ds → option_map mark_of (records_state ds p) ≡ state_at range_moves (spans ds) p
unfolding run_at
spans_kind [] size end p l h = refl
spans_kind (data_at o bytes ∷ ds) size end p l h =
    kind_over (span o (length bytes) Written) (spans ds) size p (record_state (data_at o bytes) p) (records_state ds p) (spans_rise ds size (o + length bytes) h.2 h.3)
    (kind_cond (leb o p && ltb p (o + length bytes)) _)
    (spans_kind ds size (o + length bytes) p h.2 h.3)
spans_kind (zeros_at o n ∷ ds) size end p l h =
    kind_over (span o n Zeroed) (spans ds) size p (record_state (zeros_at o n) p) (records_state ds p) (spans_rise ds size (o + n) h.2 h.3)
    (kind_cond (leb o p && ltb p (o + n)) _)
    (spans_kind ds size (o + n) p h.2 h.3)
spans_kind (d ∷ ds) size end p l h = absurd h

-- a span lies before a range, behind it, or inside it and is of its kind
abbrev pub Beside : Run RangeMark → Run RangeMark → Type 0
Beside d r = (run_end d ≤ r.offset) ⊎ ((run_end r ≤ d.offset) ⊎ ((r.offset ≤ d.offset) × (run_end d ≤ run_end r) × (d.mark ≡ r.mark)))

all_behind : (d : Run RangeMark) (rs : List (Run RangeMark)) (a b : ℕ) → Rising a rs b → run_end d ≤ a → AllByRecursion (Beside d) rs
all_behind d [] a b h l = tt
all_behind d (r ∷ rs) a b h l = (inl (let g = h.0 in omega arith), all_behind d rs (run_end r) b h.2 (let g = h.0 in omega arith))

-- positions of one kind, side by side, lie in one range
module _ (d : Run RangeMark) (some : 1 ≤ d.length) where
  one_range : (rs : List (Run RangeMark)) (a b : ℕ) → Rising a rs b → Apart range_moves rs
      → ((q : ℕ) → d.offset ≤ q → q < run_end d → state_at range_moves rs q ≡ Some d.mark) → AllByRecursion (Beside d) rs
  one_range [] a b h p e = tt
  one_range (r ∷ rs) a b h p e =
      let low = e d.offset (omega arith) (omega arith) in
      elim (cases_lt d.offset (run_end r)) [
        | inr l ↦
            (inr (inl l), one_range rs (run_end r) b h.2 p.1 (λ q m n. sym (at_past range_moves r rs q (omega arith)) ∙ e q m n))
        | inl l ↦ elim (cases_lt d.offset r.offset) [
          | inl m ↦ none_some (state_at range_moves (r ∷ rs) d.offset) (at_before range_moves r.offset b (r ∷ rs) d.offset (omega arith, h.1, h.2) m) low
          | inr m ↦
              let here : state_at range_moves (r ∷ rs) d.offset ≡ Some r.mark = at_inside range_moves r rs d.offset m l in
              let kind : d.mark ≡ r.mark = some_same d.mark r.mark (state_at range_moves (r ∷ rs) d.offset) low here in
              elim (cases_lt (run_end r) (run_end d)) [
                | inl n ↦
                    let next : state_at range_moves (r ∷ rs) (run_end r) ≡ state_at range_moves rs (run_end r) = at_past range_moves r rs (run_end r) (omega arith) in
                    absurd (stops range_moves (λ m. refl) r rs b h.2 p.0 (sym next ∙ e (run_end r) (omega arith) n ∙ ap Some kind))
                | inr n ↦ (inr (inr (m, n, kind)), all_behind d rs (run_end r) b h.2 n)
              ]
        ]
      ]

-- so does each of the spans whose kinds the ranges tell
pub all_beside : (rs : List (Run RangeMark)) (size : ℕ) → Rising 0 rs size → Apart range_moves rs → (ds : List (Run RangeMark)) (a : ℕ) → Rising a ds size
    → ((q : ℕ) → a ≤ q → q < size → state_at range_moves rs q ≡ state_at range_moves ds q) → AllByRecursion (λ d. AllByRecursion (Beside d) rs) ds
all_beside rs size h p [] a g e = tt
all_beside rs size h p (d ∷ ds) a g e =
    let low = g.0 in
    let top = rising_le (run_end d) size ds g.2 in (
      one_range d g.1 rs 0 size h p (λ q m n. e q (omega arith) (omega arith) ∙ at_inside range_moves d ds q m n),
      all_beside rs size h p ds (run_end d) g.2 (λ q m n. e q (omega arith) n ∙ at_past range_moves d ds q m),
    )
