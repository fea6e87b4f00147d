-- The ranges of a difference are its longest runs.
use Rattle.std.proofs.Common.{◌≡◌, ℕ, ◌+◌, ◌<◌, ◌≤◌, List, [], ◌∷◌, map, length, Some, None, Option, sym, refl, ap, ◌∙◌, subst, inl, inr, arith}
use lib.ListN.{length-map}
use Rattle.std.specs.Option.{option_map}
use Rattle.std.specs.List.{AllByRecursion}
use Rattle.std.proofs.lemmas.List.{get_or_past, get_or-map}
use Rattle.std.proofs.lemmas.Bool.{cases_lt}
use Rattle.overlay.specs.declared.runs.Run.{Run}
use Rattle.overlay.specs.declared.ranges.RangeMark.{RangeMark}
use Rattle.overlay.specs.Marks.{range_moves, range_alike}
use Rattle.overlay.specs.Runs.{run_end, state_at, Rising, Apart, Runs}
use Rattle.overlay.specs.Laws.{RunsExist}
use Rattle.overlay.specs.States.{state_over}
use Rattle.overlay.proofs.RunPositions.{run_before, at_inside, at_past, at_before, at_after, none_some, some_same}
use Rattle.overlay.proofs.Uniqueness.{stops}
use Rattle.overlay.proofs.StateLists.{runs_states}
use Rattle.stream.specs.Meaning.{Cell, mark_of, ranges}
use Rattle.listing.specs.Laws.{kind_at, LongestRun, Missed, RangesAreLongest}

abbrev runs_at : List (Run RangeMark) → ℕ → Option RangeMark
runs_at = state_at range_moves

module _ (kinds : ℕ → Option RangeMark) where
  -- nothing of the first run's kind right before it
  abbrev Starts : List (Run RangeMark) → Type 0
  Starts [] = Unit {0}
  Starts (r ∷ rs) = (p : ℕ) → p + 1 ≡ r.offset → kinds p ≡ Some r.mark → ⊥

  starts_next : (r : Run RangeMark) (rs : List (Run RangeMark)) (n : ℕ) → 1 ≤ r.length → Rising (run_end r) rs n → Apart range_moves (r ∷ rs)
      → ((p : ℕ) → r.offset ≤ p → kinds p ≡ runs_at (r ∷ rs) p) → Starts rs
  starts_next r [] n some h a k = tt
  starts_next r (s ∷ rs) n some h a k = λ p e f.
      elim (cases_lt p (run_end r)) [
        | inl l ↦
            let g = h.0 in
            let t : run_end r ≡ s.offset = omega arith in
            let low : r.offset ≤ p = omega arith in
            a.0 t (some_same r.mark s.mark (kinds p) (k p low ∙ at_inside range_moves r (s ∷ rs) p low l) f)
        | inr l ↦
            let low : r.offset ≤ p = omega arith in
            let before : p < s.offset = omega arith in
            none_some (kinds p) (k p low ∙ at_past range_moves r (s ∷ rs) p l ∙ at_before range_moves s.offset n (s ∷ rs) p (omega arith, h.1, h.2) before) f
      ]

  each_longest : (rs : List (Run RangeMark)) (a n : ℕ) → Rising a rs n → Apart range_moves rs → ((p : ℕ) → a ≤ p → kinds p ≡ runs_at rs p) → Starts rs
      → AllByRecursion (LongestRun kinds) rs
  each_longest [] a n h p k s = tt
  each_longest (r ∷ rs) a n h p k s =
      let low = h.0 in
      let here : (q : ℕ) → r.offset ≤ q → kinds q ≡ runs_at (r ∷ rs) q = λ q l. k q (omega arith) in (
        record {
          alike = λ q l m. here q l ∙ at_inside range_moves r rs q l m;
          stops = λ e. stops range_moves (λ m. refl) r rs n h.2 p.0 (sym (at_past range_moves r rs (run_end r) (omega arith)) ∙ sym (here (run_end r) (omega arith)) ∙ e);
          starts = s;
        },
        each_longest rs (run_end r) n h.2 p.1 (λ q l. here q (omega arith) ∙ at_past range_moves r rs q l) (starts_next r rs n h.1 h.2 p here),
      )

missed : (rs : List (Run RangeMark)) (p : ℕ) → AllByRecursion (Missed p) rs → runs_at rs p ≡ None
missed [] p h = refl
missed (r ∷ rs) p h =
    elim h.0 [
      | inl l ↦ ap (λ t. state_over t (runs_at rs p)) (run_before range_moves r p l) ∙ missed rs p h.1
      | inr l ↦ at_past range_moves r rs p l ∙ missed rs p h.1
    ]

-- the kinds of positions are what the ranges say
kinds_are : (ds : List (Option Cell)) (rs : List (Run RangeMark)) → Runs range_moves (map (option_map mark_of) ds) rs → (p : ℕ) → kind_at ds p ≡ runs_at rs p
kinds_are ds rs h p =
    elim (cases_lt p (length ds)) [
      | inl l ↦ sym (get_or-map (option_map mark_of) ds p None None l) ∙ sym ((runs_states range_moves _ rs h).paints p (omega (arith, length-map ds (option_map mark_of))))
      | inr l ↦ ap (option_map mark_of) (get_or_past ds p None l) ∙ sym (at_after range_moves 0 _ rs p h.canonical.rising (omega (arith, length-map ds (option_map mark_of))))
    ]

starts_first : (kinds : ℕ → Option RangeMark) (rs : List (Run RangeMark)) (n : ℕ) → Rising 0 rs n → ((p : ℕ) → kinds p ≡ runs_at rs p) → Starts kinds rs
starts_first kinds [] n h k = tt
starts_first kinds (r ∷ rs) n h k = λ p e f. none_some (kinds p) (k p ∙ at_before range_moves r.offset n (r ∷ rs) p (omega arith, h.1, h.2) (omega arith)) f

pub ranges_are_longest : RunsExist range_moves range_alike → RangesAreLongest
unfolding ranges
ranges_are_longest ex ds small =
    let kinds = map (option_map mark_of) ds in
    let l : length kinds ≡ length ds = length-map ds (option_map mark_of) in
    let h = ex kinds (omega arith) in
    let rs = ranges ds in
    let k = kinds_are ds rs h in
    let P : ℕ → Type 0 = λ n. Rising 0 rs n in
    record {
      rising = subst P l h.canonical.rising;
      longest = each_longest (kind_at ds) rs 0 (length kinds) h.canonical.rising h.canonical.apart (λ p _. k p) (starts_first (kind_at ds) rs (length kinds) h.canonical.rising k);
      elsewhere = λ p m. k p ∙ missed rs p m;
    }
