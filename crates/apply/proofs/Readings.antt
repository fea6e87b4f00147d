-- What is known of a stream that was read: the name that it leads from, its parts and its steps.
-- Rests on what reading promises.
use Rattle.std.proofs.Common.{◌≡◌, ℕ, true, false, cond, List, [], ◌∷◌, Ok, Err, Result, sym, refl, ap, ◌∙◌, ap₂}
use Rattle.std.proofs.Props.{props}
use Rattle.std.proofs.Math.Logic.{∥∥₁_elim, ∥∥₁_map}
use Rattle.std.proofs.lemmas.Bool.{cond-true, cond-false}
use mathlib.Core.Sum.{⊎_set}
use Rattle.fault.specs.Fault.{fault, and_then}
use Rattle.fault.specs.declared.fault.Fault.{Fault}
use Rattle.fault.specs.declared.cause.Cause.TheVariants.{NamesDiffer}
use Rattle.overlay.specs.declared.payloads.Side.{Side}
use Rattle.store.specs.Stores.{Images}
use Rattle.stream.specs.Records.{Content, image_size, from_of}
use Rattle.stream.specs.Meaning.{cells, ranges}
use Rattle.stream.specs.Parts.{part_ranges}
use Rattle.stream.specs.Difference.{difference, meaning}
use Rattle.stream.specs.Streams.{OnSide}
use Rattle.stream.specs.Verdict.{verdict, same}
use Rattle.stream.specs.declared.stream.Stream.{Stream}
use Rattle.stream.proofs.ReadRecords.{ok_same}
use Rattle.stream.proofs.FoundRanges.{part_ranges_are}
use Rattle.stream.proofs.SoundLists.{never}
use Rattle.stream.proofs.GatheredRecords.{stream_both}
use Rattle.apply.specs.Steps.{Step, steps_from, steps}
use Rattle.apply.specs.Applies.{apply_steps, led_from, apply_read}
use Rattle.apply.specs.Read.{WellParted, part_steps}

module _ (name stream : List ℕ) where
  -- a stream's fault comes before its names
  pub led_err : (f : Fault) → verdict stream ≡ Err f → led_from name stream ≡ Err f
  unfolding led_from
  led_err f v = ap (λ o. and_then o (λ cs. cond (same (from_of [] cs) name) (Ok cs) (Err (fault NamesDiffer 0)))) v

  led_ok : (cs : List Content) → verdict stream ≡ Ok cs → led_from name stream ≡ cond (same (from_of [] cs) name) (Ok cs) (Err (fault NamesDiffer 0))
  unfolding led_from
  led_ok cs v = ap (λ o. and_then o (λ cs. cond (same (from_of [] cs) name) (Ok cs) (Err (fault NamesDiffer 0)))) v

  pub leads : (cs : List Content) → verdict stream ≡ Ok cs → same (from_of [] cs) name ≡ true → led_from name stream ≡ verdict stream
  leads cs v e = led_ok cs v ∙ cond-true (same (from_of [] cs) name) _ _ e ∙ sym v

  pub leads_not : (cs : List Content) → verdict stream ≡ Ok cs → same (from_of [] cs) name ≡ false → led_from name stream ≡ Err (fault NamesDiffer 0)
  leads_not cs v e = led_ok cs v ∙ cond-false (same (from_of [] cs) name) _ _ e

-- a stream without a meaning has its fault
fault_back : (o : Result (List Content) Fault) (f : Fault) → Err f ≡ and_then o (λ cs. Ok (difference cs)) → o ≡ Err f
fault_back (Ok cs) f h = never (difference cs) f h
fault_back (Err e) f h = let k : e ≡ f = cc in ap Err k

pub verdict_err : (bytes : List ℕ) (f : Fault) → Err f ≡ meaning bytes → verdict bytes ≡ Err f
unfolding meaning
verdict_err bytes f h = fault_back (verdict bytes) f h

steps_set : IsSet (List Step)
steps_set = hlevel (⊎_set, props)

module _ (s : Stream) where
  pub stream_parted : ∥ WellParted s.bytes.now s.sheet.runs.now s.sheet.size ∥₁
  stream_parted = ∥∥₁_map s.was_read (λ r. let st = r.1.stands in record { rising = st.rising; lie = (r.0, st.inside); few = st.few })

  -- its parts come to the steps of its records
  steps_on : (side : Side) (cs : List Content) → OnSide side s → verdict s.bytes.now ≡ Ok cs → part_steps s.bytes.now s.sheet.runs.now s.sheet.size ≡ steps cs
  unfolding steps
  steps_on side cs on v =
      let xs = s.bytes.now in
      let is = ok_same on.records cs (sym on.was_read ∙ v) in
      let rs : part_ranges s.sheet.runs.now s.sheet.size ≡ ranges (cells on.records) =
      sym (part_ranges_are xs xs s.sheet.runs.now s.sheet.size) ∙ ap ranges (on.stands.means xs xs (stream_both xs side)) in
      ap₂ (λ k ss. (0, image_size k) ∷ ss) on.size_is (ap₂ (steps_from 1) on.runs_are rs) ∙ ap steps is

  outcome_by : (holds : Images) (image : List ℕ) (o : Result (List Content) Fault) → verdict s.bytes.now ≡ o
      → apply_steps holds image (part_steps s.bytes.now s.sheet.runs.now s.sheet.size) ≡ apply_read holds image o
  outcome_by holds image (Ok cs) v = ap (apply_steps holds image) (∥∥₁_elim s.was_read (steps_set _ _) (λ r. steps_on r.0 cs r.1 v))
  outcome_by holds image (Err f) v = absurd (∥∥₁_elim s.was_read (λ (a b : ⊥). absurd a) (λ r. never r.1.records f (sym v ∙ r.1.was_read)))

  pub stream_outcome : (holds : Images) (image : List ℕ) → apply_steps holds image (part_steps s.bytes.now s.sheet.runs.now s.sheet.size) ≡ apply_read holds image (verdict s.bytes.now)
  stream_outcome holds image = outcome_by holds image (verdict s.bytes.now) refl
