-- What a sound list of records says of its data records, its size and its ranges. Rests on
-- soundness and on canonical runs.
use Rattle.std.proofs.Common.{◌≡◌, ℕ, ◌^◌, ◌<◌, ◌≤◌, List, [], ◌∷◌, map, length, get_or, None, refl, ap, ◌∙◌, subst, arith}
use lib.ListN.{length-map}
use Rattle.std.specs.Option.{option_map}
use Rattle.std.proofs.lemmas.List.FromFn.{length-map-range_with_len, get_or-map-range_with_len}
use Rattle.std.proofs.lemmas.List.{get_or-map}
use Rattle.overlay.specs.Marks.{range_moves}
use Rattle.overlay.specs.Runs.{state_at, Rising, Apart, Runs}
use Rattle.overlay.specs.States.{state_over}
use Rattle.overlay.proofs.RunPositions.{over_none}
use Rattle.overlay.proofs.StateLists.{runs_states}
use Rattle.stream.specs.Records.{Content, data_at, zeros_at, data_of, size_in}
use Rattle.stream.specs.Meaning.{mark_of, record_state, records_state, cells, ranges}
use Rattle.stream.specs.Sound.{Sound}
use Rattle.stream.specs.Sound as sound
use Rattle.stream.proofs.StreamMeaning.{size_first, size_small}
use Rattle.stream.proofs.FoundRanges.{ranges_runs}
use Rattle.stream.proofs.SoundLists.{data_only, data_behind}

-- metadata before data: the data records are the data, and the size is the metadata's
module _ (cs : List Content) (s : Sound cs) where
  size_is : size_in 0 cs ≡ size_in 0 s.metas
  size_is = ap (size_in 0) s.whole ∙ size_first s.metas s.datas 0 (size_in 0 s.metas) 0 s.good s.rising

  pub sound_rising : sound.RisingRecords (size_in 0 cs) 0 (data_of cs)
  sound_rising =
      let d : data_of cs ≡ s.datas = ap data_of s.whole ∙ data_behind s.metas s.datas s.good ∙ data_only s.datas (size_in 0 s.metas) 0 s.rising in
      rw (d, size_is) s.rising

  pub sound_small : size_in 0 cs ≤ 2 ^ 40
  sound_small = rw size_is (size_small s.metas 0 (omega arith) s.good)

-- metadata gives no position a state
pub laid_data : (cs : List Content) (p : ℕ) → records_state cs p ≡ records_state (data_of cs) p
laid_data [] p = refl
laid_data (data_at o bytes ∷ cs) p = ap (λ t. state_over t (record_state (data_at o bytes) p)) (laid_data cs p)
laid_data (zeros_at o n ∷ cs) p = ap (λ t. state_over t (record_state (zeros_at o n) p)) (laid_data cs p)
laid_data (c ∷ cs) p = over_none (records_state cs p) ∙ laid_data cs p

-- the states of the positions, and the ranges over them
module _ (cs : List Content) where
  pub cells_length : length (cells cs) ≡ size_in 0 cs
  unfolding cells
  cells_length = length-map-range_with_len (records_state cs) 0 (size_in 0 cs)

  pub cells_getD : (p : ℕ) → p < size_in 0 cs → get_or (cells cs) p None ≡ records_state cs p
  unfolding cells
  cells_getD p l = get_or-map-range_with_len (records_state cs) 0 (size_in 0 cs) p p None l (omega arith)

  kinds_length : length (map (option_map mark_of) (cells cs)) ≡ size_in 0 cs
  kinds_length = length-map (cells cs) (option_map mark_of) ∙ cells_length

  module _ (small : size_in 0 cs ≤ 2 ^ 40) where
    are_runs : Runs range_moves (map (option_map mark_of) (cells cs)) (ranges (cells cs))
    are_runs = ranges_runs (cells cs) (omega (arith, cells_length))

    pub ranges_rise : Rising 0 (ranges (cells cs)) (size_in 0 cs)
    ranges_rise = subst (λ n. Rising 0 (ranges (cells cs)) n) kinds_length are_runs.canonical.rising

    pub ranges_apart : Apart range_moves (ranges (cells cs))
    ranges_apart = are_runs.canonical.apart

    pub ranges_kind : (p : ℕ) → p < size_in 0 cs → state_at range_moves (ranges (cells cs)) p ≡ option_map mark_of (records_state cs p)
    ranges_kind p l =
        (runs_states range_moves (map (option_map mark_of) (cells cs)) (ranges (cells cs)) are_runs).paints p (omega (arith, kinds_length))
        ∙ get_or-map (option_map mark_of) (cells cs) p None None (omega (arith, cells_length))
        ∙ ap (option_map mark_of) (cells_getD p l)
