-- No rising runs that mean the same are fewer than the ranges, or cost less where each run has a
-- head. Assumes nothing.
use Rattle.std.proofs.Common.{◌≡◌, ℕ, ◌+◌, ◌^◌, ◌<◌, ◌≤◌, ◌&&◌, eqb, List, [], ◌∷◌, map, length, sym, refl, ap, ◌∙◌, subst, ⊎_elim, arith}
use Rattle.std.proofs.lemmas.List.{length-map}
use Rattle.std.proofs.lemmas.Bool.{cases_Bool, and_parts, and_from, eqb-true, eq-eqb, both_ways}
use Rattle.overlay.specs.declared.runs.Run.{Run}
use Rattle.overlay.specs.declared.ranges.RangeMark.{RangeMark}
use Rattle.overlay.specs.declared.payloads.PayloadMark.{PayloadMark}
use Rattle.overlay.specs.Marks.{range_moves, range_alike, range_of}
use Rattle.overlay.specs.States.{state_over}
use Rattle.overlay.specs.Runs.{run_end, run_at, state_at, run_states, Rising, Parted, Apart, Runs, with_mark}
use Rattle.overlay.proofs.RunPositions.{over_assoc, merged_at, rising_le}
use Rattle.overlay.proofs.StateLists.{counted_same, one_runs, painted_length}
use Rattle.overlay.proofs.MarkMaps.{rising_remarked}
use Rattle.stream.specs.Meaning.{ranges}
use Rattle.stream.specs.Parts.{parts_cells, range_runs, part_ranges}
use Rattle.stream.proofs.FoundRanges.{part_ranges_are}
use Rattle.overlay.proofs.RangeRuns.{range_tells, ranges_exist}

-- what runs cost in all
abbrev pub total_cost : (RangeMark → ℕ → ℕ) → List (Run RangeMark) → ℕ
total_cost cost [] = 0
total_cost cost (r ∷ rs) = cost r.mark r.length + total_cost cost rs

-- canonical runs that mean what rising runs from a to b mean, and are no more and cost no more
record Fewer (cost : RangeMark → ℕ → ℕ) (a b : ℕ) (rs runs : List (Run RangeMark)) : Type 0 where
  rising : Rising a runs b
  apart : Apart range_moves runs
  paints : (p : ℕ) → state_at range_moves runs p ≡ state_at range_moves rs p
  fewer : length runs ≤ length rs
  lighter : total_cost cost runs ≤ total_cost cost rs
  all : total_cost cost runs ≡ total_cost cost rs → runs ≡ rs

parted_like : (x y : Run RangeMark) (rs : List (Run RangeMark)) → run_end x ≡ run_end y → x.mark ≡ y.mark → Parted range_moves y rs → Parted range_moves x rs
parted_like x y [] e f h = tt
parted_like x y (s ∷ rs) e f h = λ u v. h (sym e ∙ u) (sym f ∙ v)

-- two runs of a kind cost less as one
module _ (cost : RangeMark → ℕ → ℕ) (one_head : (m : RangeMark) (a b : ℕ) → cost m (a + b) < cost m a + cost m b) where
  one_lighter : (r x : Run RangeMark) → r.mark ≡ x.mark → cost r.mark (r.length + x.length) < cost r.mark r.length + cost x.mark x.length
  one_lighter r x e = subst (λ m. cost r.mark (r.length + x.length) < cost r.mark r.length + cost m x.length) e (one_head r.mark r.length x.length)

  -- a run before canonical runs: it goes on as the first of them, or not
  united : (a b : ℕ) (r : Run RangeMark) (rs xs : List (Run RangeMark)) → b < 2 ^ 64 → a ≤ r.offset → 1 ≤ r.length → Fewer cost (run_end r) b rs xs → (ys : List (Run RangeMark)) × Fewer cost a b (r ∷ rs) ys
  united a b r rs [] l h s f = (
    r ∷ [],
    record {
      rising = (h, s, f.rising);
      apart = (tt, tt);
      paints = λ p. ap (state_over (run_at range_moves r p)) (f.paints p);
      fewer = omega arith;
      lighter = omega (arith, f.lighter);
      all = λ q. ap (λ ys. r ∷ ys) (f.all (omega arith));
    },
  )
  united a b r rs (x ∷ xs) l h s f =
      let under = rising_le (run_end x) b xs f.rising.2 in
      let test = eqb (run_end r) x.offset && range_alike r.mark x.mark in
      ⊎_elim
      (λ y.
      let parts = and_parts (eqb (run_end r) x.offset) (range_alike r.mark x.mark) y in
      let o : run_end r ≡ x.offset = eqb-true _ _ parts.0 in
      let m : r.mark ≡ x.mark = (range_tells r.mark x.mark).0 parts.1 in
      let w : Run RangeMark = record { offset = r.offset; length = r.length + x.length; mark = r.mark } in
      let t : run_end w ≡ run_end x = let c = f.rising.0 in omega arith in
      let n = f.fewer in (
        w ∷ xs,
        record {
          rising = (h, omega arith, subst (λ z. Rising z xs b) (sym t) f.rising.2);
          apart = (parted_like w x xs t m f.apart.0, f.apart.1);
          paints = λ p.
              ap (λ z. state_over z (state_at range_moves xs p)) (merged_at range_moves (λ k i j. refl) r x w o m refl refl refl (omega arith) p)
              ∙ over_assoc (run_at range_moves r p) (run_at range_moves x p) (state_at range_moves xs p)
              ∙ ap (state_over (run_at range_moves r p)) (f.paints p);
          fewer = omega arith;
          lighter = omega (arith, f.lighter, one_lighter r x m);
          all = λ q. absurd (omega (arith, f.lighter, one_lighter r x m));
        },
      ))
      (λ y. (
        r ∷ (x ∷ xs),
        record {
          rising = (h, s, f.rising);
          apart = ((λ u v. both_ways test y (and_from (eqb (run_end r) x.offset) (range_alike r.mark x.mark) (eq-eqb _ _ u) ((range_tells r.mark x.mark).1 v))), f.apart);
          paints = λ p. ap (state_over (run_at range_moves r p)) (f.paints p);
          fewer = let n = f.fewer in omega arith;
          lighter = omega (arith, f.lighter);
          all = λ q. ap (λ ys. r ∷ ys) (f.all (omega arith));
        },
      ))
      (cases_Bool test)

  fewer : (a b : ℕ) (rs : List (Run RangeMark)) → b < 2 ^ 64 → Rising a rs b → (ys : List (Run RangeMark)) × Fewer cost a b rs ys
  fewer a b [] l h = ([], record { rising = h; apart = tt; paints = λ p. refl; fewer = omega arith; lighter = omega arith; all = λ q. refl })
  fewer a b (r ∷ rs) l h = let f = fewer (run_end r) b rs l h.2 in united a b r rs f.0 l h.0 h.1 f.1

  -- the canonical runs of rising runs are no more than these, and are these where they cost as much
  module _ (rs : List (Run RangeMark)) (size : ℕ) (fits : size < 2 ^ 64) (h : Rising 0 rs size) where
    range_united : range_runs rs size ≡ (fewer 0 size rs fits h).0
    range_united =
        let ys = (fewer 0 size rs fits h).0 in
        let f = (fewer 0 size rs fits h).1 in
        let marks = run_states range_moves rs size in
        let lm = painted_length range_moves rs size in
        let is : Runs range_moves marks ys = record {
          canonical = record { rising = subst (λ n. Rising 0 ys n) (sym lm) f.rising; apart = f.apart };
          paints = ap (run_states range_moves ys) lm ∙ counted_same (state_at range_moves ys) (state_at range_moves rs) size (λ p _. f.paints p);
        } in
        one_runs range_moves (λ m. refl) marks (range_runs rs size) ys (ranges_exist marks (omega arith)) is

    pub few_range_runs : length (range_runs rs size) ≤ length rs
    few_range_runs = omega (arith, ap length range_united, (fewer 0 size rs fits h).1.fewer)

    pub same_range_runs : total_cost cost (range_runs rs size) ≡ total_cost cost rs → range_runs rs size ≡ rs
    same_range_runs e = range_united ∙ (fewer 0 size rs fits h).1.all (sym (ap (total_cost cost) range_united) ∙ e)

  -- the same of the ranges that parts of two streams come to
  module _ (earlier later : List ℕ) (parts : List (Run PayloadMark)) (size : ℕ) (fits : size < 2 ^ 64) (h : Rising 0 parts size) where
    kinds_rise : Rising 0 (map (with_mark range_of) parts) size
    kinds_rise = rising_remarked range_of 0 size parts h

    ranges_are : ranges (parts_cells earlier later parts size) ≡ range_runs (map (with_mark range_of) parts) size
    unfolding part_ranges
    ranges_are = part_ranges_are earlier later parts size

    pub few_ranges : length (ranges (parts_cells earlier later parts size)) ≤ length parts
    few_ranges = omega (arith, ap length ranges_are, few_range_runs (map (with_mark range_of) parts) size fits kinds_rise, length-map parts (with_mark range_of))

    pub same_ranges : total_cost cost (ranges (parts_cells earlier later parts size)) ≡ total_cost cost (map (with_mark range_of) parts)
        → ranges (parts_cells earlier later parts size) ≡ map (with_mark range_of) parts
    same_ranges e = ranges_are ∙ same_range_runs (map (with_mark range_of) parts) size fits kinds_rise (sym (ap (total_cost cost) ranges_are) ∙ e)

-- each run may cost one
abbrev one_each : RangeMark → ℕ → ℕ
one_each m n = 1

one_less : (m : RangeMark) (a b : ℕ) → one_each m (a + b) < one_each m a + one_each m b
one_less m a b = omega arith

pub united_few : (rs : List (Run RangeMark)) (size : ℕ) → size < 2 ^ 64 → Rising 0 rs size → length (range_runs rs size) ≤ length rs
united_few rs size fits h = few_range_runs one_each one_less rs size fits h

pub parts_few : (earlier later : List ℕ) (parts : List (Run PayloadMark)) (size : ℕ) → size < 2 ^ 64 → Rising 0 parts size → length (ranges (parts_cells earlier later parts size)) ≤ length parts
parts_few earlier later parts size fits h = few_ranges one_each one_less earlier later parts size fits h
