-- The size and the to name of a stream that was read are those of the difference that its bytes
-- mean, and it leads from its own from name. Rests on what reading promises, and on apply's
-- outcomes.
use Rattle.std.proofs.Common.{◌≡◌, ℕ, true, List, Ok, Result, sym, subst, ap, ◌∙◌}
use Rattle.std.proofs.Props.{props}
use Rattle.std.proofs.Math.Logic.{∥∥₁_elim}
use mathlib.Core.Sum.{⊎_set}
use Rattle.fault.specs.Fault.{and_then}
use Rattle.fault.specs.declared.fault.Fault.{Fault}
use Rattle.stream.specs.Difference.{Difference, meaning}
use Rattle.stream.specs.Records.{Content}
use Rattle.stream.specs.Verdict.{verdict, same}
use Rattle.stream.specs.declared.stream.Stream.{Stream}
use Rattle.store.specs.Memory.{flat_set}
use Rattle.store.specs.Stores.{Images}
use Rattle.stream.proofs.FoundRanges.{length_cells}
use Rattle.stream.proofs.StreamRefusals.{same_refl}
use Rattle.stream.proofs.GatheredRecords.{read_meaning}
use Rattle.apply.specs.Applies.{led_from, apply_read, apply_answer}
use Rattle.apply.proofs.Readings.{leads}
use Rattle.file_calls.specs.Calls.{size_after, to_name_of, image_memory}
use Rattle.file_calls.specs.Calls.{grown_outcome, file_outcome}

size_set : IsSet ℕ
size_set = hlevel props

name_set : IsSet (Result (List ℕ) Fault)
name_set = hlevel (⊎_set, props)

records_set : IsSet (Result (List Content) Fault)
records_set = hlevel (⊎_set, props)

module _ (s : Stream) where
  pub stream_size : size_after (meaning s.bytes.now) ≡ s.sheet.size
  stream_size =
      let xs = s.bytes.now in
      let runs = s.sheet.runs.now in
      ∥∥₁_elim s.was_read (size_set _ _)
      (λ r. ap size_after (read_meaning r.0 xs s.from.now s.to.now s.sheet.size runs r.1) ∙ length_cells xs xs runs s.sheet.size)

  pub stream_to : to_name_of s.bytes.now ≡ Ok s.to.now
  stream_to =
      let name : Result Difference Fault → Result (List ℕ) Fault = λ o. and_then o (λ d. Ok d.to) in
      ∥∥₁_elim s.was_read (name_set _ _)
      (λ r. ap name (read_meaning r.0 s.bytes.now s.from.now s.to.now s.sheet.size s.sheet.runs.now r.1))

  led_itself : led_from s.from.now s.bytes.now ≡ verdict s.bytes.now
  led_itself =
      ∥∥₁_elim s.was_read (records_set _ _)
      (λ r.
      let on = r.1 in
      leads s.from.now s.bytes.now on.records on.was_read (subst (λ n. same n s.from.now ≡ true) on.from_is (same_refl s.from.now)))

  -- applying what was read is applying the stream under the name that it leads from
  pub answer_read : (holds : Images) (image : List ℕ) → apply_read holds image (verdict s.bytes.now) ≡ apply_answer holds image s.from.now s.bytes.now
  answer_read holds image = ap (apply_read holds image) (sym led_itself)

  -- and under each name that it meets
  pub file_is : (bytes name stream : List ℕ) → s.bytes.now ≡ stream → led_from name stream ≡ verdict stream
      → grown_outcome bytes s.sheet.size s.from.now s.bytes.now ≡ file_outcome bytes name stream
  file_is bytes name stream e l =
      let xs = s.bytes.now in
      let led : led_from s.from.now xs ≡ led_from name xs = led_itself ∙ sym (subst (λ ys. led_from name ys ≡ verdict ys) (sym e) l) in
      ap (λ n. grown_outcome bytes n s.from.now xs) (sym stream_size)
      ∙ ap (apply_read (flat_set (image_memory bytes (size_after (meaning xs)))) bytes) led
      ∙ ap (file_outcome bytes name) e
