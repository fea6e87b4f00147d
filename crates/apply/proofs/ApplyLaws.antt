-- The laws of applying a sound list of records. Rests on what its steps make of an image, and on
-- how they are refused.
use Rattle.std.proofs.Common.{◌≡◌, ℕ, ◌<◌, List, get_or, None, sym, refl, ap, ◌∙◌, ap₂, inl, inr, arith}
use Rattle.std.specs.Option.{option_map}
use Rattle.std.specs.List.{AllByRecursion}
use Rattle.std.proofs.lemmas.List.{ext_get_or}
use Rattle.std.proofs.lemmas.Bool.{cases_Bool}
use Rattle.overlay.specs.Marks.{range_moves}
use Rattle.overlay.specs.Runs.{state_at}
use Rattle.store.specs.Images.{image_of_size}
use Rattle.store.specs.Stores.{Images, done}
use Rattle.store.proofs.ImageLaws.{length_resized, getD_resized}
use Rattle.stream.specs.Records.{Content, image_size, data_of, size_in}
use Rattle.stream.specs.Meaning.{mark_of, records_state, cells, ranges}
use Rattle.stream.specs.Difference.{byte_over, image_after}
use Rattle.stream.specs.Sound.{Sound}
use Rattle.apply.specs.Steps.{Step, steps_from, steps}
use Rattle.apply.specs.Applies.{apply_records}
use Rattle.apply.specs.Laws.{made_by_all, AllHeld, AppliesExactly, AgreeKept, StopsHarmless}
use Rattle.apply.proofs.KeptPositions.{applied_length, applied_getD, only_kept}
use Rattle.apply.proofs.Outcomes.{AllCalled, step_taken, step_refused, all_taken, taken_held, stopped_at, stops_at}
use Rattle.apply.proofs.StepImages.{StepFits, records_of, all_called, all_length, all_get_d, outcome_getD}
use Rattle.apply.proofs.Spans.{spans, spans_rise, spans_kind, all_beside}
use Rattle.apply.proofs.SoundRecords.{sound_rising, sound_small, laid_data, cells_length, cells_getD, ranges_rise, ranges_apart, ranges_kind}
use Rattle.apply.proofs.StepStates.{steps_laid, datas_fit, steps_fit}

-- the steps after the resize
abbrev later : List Content → List Step
later cs = steps_from 1 (data_of cs) (ranges (cells cs))

module _ (cs : List Content) (s : Sound cs) where
  later_fit : AllByRecursion (StepFits (size_in 0 cs)) (later cs)
  later_fit = steps_fit (size_in 0 cs) (data_of cs) (datas_fit (data_of cs) (size_in 0 cs) 0 (sound_rising cs s)) (ranges (cells cs)) 0 1 (ranges_rise cs (sound_small cs s))

  -- below the size they give a position what the records give it
  later_laid : (p : ℕ) → p < size_in 0 cs → records_state (records_of (later cs)) p ≡ records_state cs p
  later_laid p l =
      let n = size_in 0 cs in
      let ds = data_of cs in
      let rs = ranges (cells cs) in
      let small = sound_small cs s in
      let rise = sound_rising cs s in
      let kind : (q : ℕ) → q < n → state_at range_moves rs q ≡ option_map mark_of (records_state ds q) = λ q k. ranges_kind cs small q k ∙ ap (option_map mark_of) (laid_data cs q) in
      let beside = all_beside rs n (ranges_rise cs small) (ranges_apart cs small) (spans ds) 0 (spans_rise ds n 0 (omega arith) rise) (λ q _ k. kind q k ∙ spans_kind ds n 0 q (omega arith) rise) in
      steps_laid p n ds 0 rise rs n 1 (ranges_rise cs small) beside (kind p l) ∙ sym (laid_data cs p)

  pub steps_called : (image : List ℕ) → AllCalled image (steps cs)
  unfolding steps
  steps_called image = (λ holds. refl, all_called (size_in 0 cs) (later cs) (image_of_size image (size_in 0 cs)) (length_resized image (size_in 0 cs)) later_fit)

  -- all steps make of an image what the difference makes of it
  pub steps_make : (image : List ℕ) → made_by_all (steps cs) image ≡ image_after (cells cs) image
  unfolding steps
  steps_make image =
      let n = size_in 0 cs in
      let start = image_of_size image n in
      let long = length_resized image n in
      let whole = all_length n (later cs) start long later_fit in
      let size = cells_length cs in
      ext_get_or 0 (made_by_all (later cs) start) (image_after (cells cs) image) (whole ∙ sym size ∙ sym (applied_length (cells cs) image))
      (λ p l.
      let k : p < n = omega arith in
      all_get_d n (later cs) start p long later_fit
      ∙ ap₂ byte_over (getD_resized image n p k) (later_laid p k ∙ sym (cells_getD cs p k))
      ∙ sym (applied_getD (cells cs) image p (omega arith)))

  -- at a kept position nothing changes, whatever the outcome
  pub outcome_kept : (holds : Images) (image : List ℕ) → AgreeKept (cells cs) (apply_records holds image cs).1 image
  unfolding steps
  outcome_kept holds image p l k =
      let n = size_in 0 cs in
      let size = cells_length cs in
      let low : p < n = omega arith in
      let first : Step = (0, image_size n) in
      let nothing : records_state (records_of (later cs)) p ≡ None = later_laid p low ∙ sym (cells_getD cs p low) ∙ k in
      elim (cases_Bool (holds (image_of_size image n))) [
        | inl y ↦
            ap (λ o. get_or o.1 p 0) (step_taken holds image first (later cs) (λ holds. refl) y)
            ∙ outcome_getD n holds (later cs) (image_of_size image n) p (length_resized image n) later_fit nothing
            ∙ getD_resized image n p low
        | inr y ↦ ap (λ o. get_or o.1 p 0) (step_refused holds image first (later cs) (λ holds. refl) y)
      ]

pub applies_exactly : AppliesExactly
applies_exactly holds image cs s =
    let called = steps_called cs s image in
    let made = steps_make cs s image in
    let full : AllHeld holds image (steps cs) → apply_records holds image cs ≡ done (image_after (cells cs) image) = λ h. all_taken holds image (steps cs) called h ∙ ap done made in
    record {
      full = full;
      held = λ after e. taken_held holds image (steps cs) after called e;
      means = λ after e. ap (λ o. o.1) (sym e ∙ full (taken_held holds image (steps cs) after called e));
      stopped = λ f after e. stopped_at holds image (steps cs) f after called e;
      stops = λ f after t. stops_at holds image (steps cs) f after called t;
    }

pub stops_harmless : StopsHarmless
stops_harmless holds image cs s =
    let kept = outcome_kept cs s holds image in
    record { kept = kept; again = only_kept (cells cs) (apply_records holds image cs).1 image kept }
