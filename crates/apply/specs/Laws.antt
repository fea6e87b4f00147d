-- The laws of applying a stream, in the words of images and positions. Rests on the records, on
-- what they mean and what a difference makes of an image, on sound lists, on the steps and outcomes
-- of apply, on a store's images and on faults.
use Rattle.std.specs.Prelude.{◌≡◌, ℕ, ◌<◌, true, false, List, [], ◌∷◌, ◌++◌, length, replicate, None, Err, Option, slice_index, slice_index_or}
use Rattle.fault.specs.Fault.{fault, in_record}
use Rattle.fault.specs.declared.fault.Fault.{Fault}
use Rattle.fault.specs.declared.cause.Cause.TheVariants.{NoRoom}
use Rattle.store.specs.Images.{image_with, image_of_size}
use Rattle.store.specs.Stores.{Images, done}
use Rattle.stream.specs.Records.{Content, from_name, to_name, image_size, data_at, zeros_at}
use Rattle.stream.specs.Sound.{Sound}
use Rattle.stream.specs.Meaning.{Cell, cells}
use Rattle.stream.specs.Difference.{image_after}
use Rattle.apply.specs.Steps.{Step, steps}
use Rattle.apply.specs.Applies.{apply_records}

-- the image that a record's call makes
abbrev pub made_by : Content → List ℕ → List ℕ
made_by (from_name name) image = image
made_by (to_name name) image = image
made_by (image_size n) image = image_of_size image n
made_by (data_at offset bytes) image = image_with image offset bytes
made_by (zeros_at offset n) image = image_with image offset (replicate n 0)

-- the image that steps make in turn
abbrev pub made_by_all : List Step → List ℕ → List ℕ
made_by_all [] image = image
made_by_all (s ∷ ss) image = made_by_all ss (made_by s.1 image)

-- the set has the result of each step
abbrev pub AllHeld : Images → List ℕ → List Step → Type 0
AllHeld holds image [] = Unit {0}
AllHeld holds image (s ∷ ss) = (holds (made_by s.1 image) ≡ true) × AllHeld holds (made_by s.1 image) ss

-- the place in the fault where there is no room: the new size, or the offset
abbrev pub fault_place : Content → ℕ
fault_place (from_name name) = 0
fault_place (to_name name) = 0
fault_place (image_size n) = n
fault_place (data_at offset bytes) = offset
fault_place (zeros_at offset n) = offset

-- stopped at a step whose result the set does not have: each before it is done and stands, and the
-- fault has the step's record and place
pub record Stopped (holds : Images) (image : List ℕ) (ss : List Step) (f : Fault) (after : List ℕ) : Type 0 where
  pub before : List Step
  pub step : Step
  pub rest : List Step
  pub split : ss ≡ before ++ (step ∷ rest)
  pub held : AllHeld holds image before
  pub stands : after ≡ made_by_all before image
  pub unheld : holds (made_by step.1 after) ≡ false
  pub fault_is : f ≡ in_record step.0 (fault NoRoom (fault_place step.1))

-- records are applied in full exactly if the set has the result of each step, and then the image is
-- what their difference makes of it; else they stop exactly at the first step whose result it does
-- not have
pub record ExactApply (holds : Images) (image : List ℕ) (cs : List Content) : Type 0 where
  pub full : AllHeld holds image (steps cs) → apply_records holds image cs ≡ done (image_after (cells cs) image)
  pub held : (after : List ℕ) → apply_records holds image cs ≡ done after → AllHeld holds image (steps cs)
  pub means : (after : List ℕ) → apply_records holds image cs ≡ done after → after ≡ image_after (cells cs) image
  pub stopped : (f : Fault) (after : List ℕ) → apply_records holds image cs ≡ (Err f, after) → Stopped holds image (steps cs) f after
  pub stops : (f : Fault) (after : List ℕ) → Stopped holds image (steps cs) f after → apply_records holds image cs ≡ (Err f, after)

abbrev pub AppliesExactly : Type 0
AppliesExactly = (holds : Images) (image : List ℕ) (cs : List Content) → Sound cs → ExactApply holds image cs

-- two images agree, with zeros past their ends, at the positions that a difference keeps
abbrev pub AgreeKept : List (Option Cell) → List ℕ → List ℕ → Type 0
AgreeKept d b c = (p : ℕ) → p < length d → slice_index_or d p None ≡ None → slice_index b p ≡ slice_index c p

-- applying a difference asks nothing of the image but its bytes at the kept positions
abbrev pub OnlyKept : Type 0
OnlyKept = (d : List (Option Cell)) (b c : List ℕ) → AgreeKept d b c → image_after d b ≡ image_after d c

-- a stop is harmless: whatever the outcome, the image that stands has its old bytes at the kept
-- positions, so that applying the difference to it gives what it would have given at once
pub record Harmless (cs : List Content) (image after : List ℕ) : Type 0 where
  pub kept : AgreeKept (cells cs) after image
  pub again : image_after (cells cs) after ≡ image_after (cells cs) image

abbrev pub StopsHarmless : Type 0
StopsHarmless = (holds : Images) (image : List ℕ) (cs : List Content) → Sound cs → Harmless cs image (apply_records holds image cs).1
