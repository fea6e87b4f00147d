-- What applying a stream answers, and the image that it leaves. Rests on the steps, on the outcomes
-- of a store's calls, and on reading.
use Rattle.std.specs.Prelude.{◌≡◌, ℕ, if◌then◌else◌, List, [], ◌∷◌, length, Ok, Err, Result}
use Rattle.fault.specs.Fault.{fault, in_record, fault_by, and_then}
use Rattle.fault.specs.declared.fault.Fault.{Fault}
use Rattle.fault.specs.declared.cause.Cause.TheVariants.{NamesDiffer}
use Rattle.store.specs.Stores.{Images, Outcome, KeepsPast, done, outcome_and_then, write_outcome, zero_outcome, resize_outcome}
use Rattle.stream.specs.Records.{Content, from_name, to_name, image_size, data_at, zeros_at, from_of}
use Rattle.stream.specs.Verdict.{verdict, same}
use Rattle.apply.specs.Steps.{Step, steps}

-- the outcome of the call that a record asks for: s resizes, w writes, z zeroes; names ask for none
abbrev pub call_outcome : Images → List ℕ → Content → Outcome
call_outcome holds image (from_name name) = done image
call_outcome holds image (to_name name) = done image
call_outcome holds image (image_size n) = resize_outcome holds image n
call_outcome holds image (data_at offset bytes) = write_outcome holds image offset bytes
call_outcome holds image (zeros_at offset n) = zero_outcome holds image offset n

-- an outcome whose fault, if it has one, is in a record
abbrev pub outcome_in_record : ℕ → Outcome → Outcome
outcome_in_record i o = (fault_by (in_record i) o.0, o.1)

-- step after step; at a refusal what came before stands, and nothing else is done
abbrev pub apply_steps : Images → List ℕ → List Step → Outcome
apply_steps holds image [] = done image
apply_steps holds image (s ∷ ss) = outcome_and_then (outcome_in_record s.0 (call_outcome holds image s.1)) (λ next. apply_steps holds next ss)

abbrev pub apply_records : Images → List ℕ → List Content → Outcome
apply_records holds image cs = apply_steps holds image (steps cs)

-- the records of a stream that leads from a name, or the fault: the stream's own, and then that it
-- leads from another
unfoldable pub led_from : List ℕ → List ℕ → Result (List Content) Fault
led_from name stream = and_then (verdict stream) (λ cs. if same (from_of [] cs) name then Ok cs else Err (fault NamesDiffer 0))

-- records that were read are applied; a fault leaves the image as it was
abbrev pub apply_read : Images → List ℕ → Result (List Content) Fault → Outcome
apply_read holds image (Ok cs) = apply_records holds image cs
apply_read holds image (Err f) = (Err f, image)

-- the outcome of applying a stream to an image that has a name: the stream's fault, then the names,
-- then the store
abbrev pub apply_answer : Images → List ℕ → List ℕ → List ℕ → Outcome
apply_answer holds image name stream = apply_read holds image (led_from name stream)

-- a call's answer and what it leaves of a store: answer and image are those of an outcome, the set
-- and the memory past the image stay as they were
pub record StoreOutcome {S R : Type 0} (whole : Outcome) (answer : Result (Unit {0}) Fault) (image : S → List ℕ) (holds : S → Images) (memory : S → ℕ → R) (old new : S) : Type 0 where
  pub same : holds new ≡ holds old
  pub outcome : (answer, image new) ≡ whole
  pub past : KeepsPast memory old new (length (image new))
