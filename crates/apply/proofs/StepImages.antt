-- The bytes of an image after steps whose ranges lie in it. Rests on the laws of images, and on
-- what records give a position.
use Rattle.std.proofs.Common.{◌≡◌, ℕ, ◌+◌, ◌-◌, ◌<◌, ◌≤◌, List, [], ◌∷◌, map, length, get_or, replicate, Some, None, Option, sym, refl, ap, ◌∙◌, inl, inr, arith}
use lib.ListN.{length-replicate}
use Rattle.std.specs.List.{AllByRecursion}
use Rattle.std.proofs.lemmas.List.{get_or-replicate}
use Rattle.std.proofs.lemmas.Bool.{cases_Bool, cases_lt}
use Rattle.overlay.specs.States.{state_over}
use Rattle.store.specs.Images.{image_with}
use Rattle.store.specs.Stores.{Images}
use Rattle.store.proofs.ImageLaws.{length_overwritten, overwritten_in, overwritten_before, overwritten_after}
use Rattle.store.proofs.StoreOutcomes.{write_inside, zero_inside}
use Rattle.stream.specs.Records.{Content, data_at, zeros_at}
use Rattle.stream.specs.Meaning.{Cell, zeroed, written, state_within, record_state, records_state}
use Rattle.stream.specs.Difference.{byte_over}
use Rattle.stream.proofs.StreamMeaning.{within_in, within_before, within_after}
use Rattle.apply.specs.Steps.{Step}
use Rattle.apply.specs.Applies.{apply_steps}
use Rattle.apply.specs.Laws.{made_by, made_by_all}
use Rattle.apply.proofs.Outcomes.{Called, AllCalled, step_taken, step_refused}

-- a data record whose range ends within a size
abbrev pub Fits : ℕ → Content → Type 0
Fits size (data_at offset bytes) = offset + length bytes ≤ size
Fits size (zeros_at offset n) = offset + n ≤ size
Fits size c = ⊥

abbrev pub StepFits : ℕ → Step → Type 0
StepFits size s = Fits size s.1

-- the byte at a position after bytes were put into the image
put_getD : (image : List ℕ) (offset : ℕ) (bytes : List ℕ) (p : ℕ) (s : Cell) → offset + length bytes ≤ length image
    → (offset ≤ p → p < offset + length bytes → byte_over (get_or image p 0) (Some s) ≡ get_or bytes (p - offset) 0)
    → get_or (image_with image offset bytes) p 0 ≡ byte_over (get_or image p 0) (state_within offset (length bytes) p s)
put_getD image offset bytes p s fits inside =
    elim (cases_lt p offset) [
      | inl a ↦ overwritten_before image offset bytes fits p a ∙ sym (ap (byte_over (get_or image p 0)) (within_before offset (length bytes) p s a))
      | inr a ↦ elim (cases_lt p (offset + length bytes)) [
        | inl b ↦ overwritten_in image offset bytes fits p a b ∙ sym (inside a b) ∙ sym (ap (byte_over (get_or image p 0)) (within_in offset (length bytes) p s a b))
        | inr b ↦ overwritten_after image offset bytes fits p b ∙ sym (ap (byte_over (get_or image p 0)) (within_after offset (length bytes) p s b))
      ]
    ]

pub made_getD : (c : Content) (image : List ℕ) (p : ℕ) → Fits (length image) c → get_or (made_by c image) p 0 ≡ byte_over (get_or image p 0) (record_state c p)
made_getD (data_at offset bytes) image p h = put_getD image offset bytes p (written (get_or bytes (p - offset) 0)) h (λ _ _. refl)
made_getD (zeros_at offset n) image p h =
    let long : length (replicate {A = ℕ} n 0) ≡ n = length-replicate n 0 in
    put_getD image offset (replicate n 0) p zeroed (omega arith) (λ a b. sym (get_or-replicate n (p - offset) 0 0 (omega arith)))
    ∙ ap (λ k. byte_over (get_or image p 0) (state_within offset k p zeroed)) long
made_getD c image p h = absurd h

pub made_length : (c : Content) (image : List ℕ) → Fits (length image) c → length (made_by c image) ≡ length image
made_length (data_at offset bytes) image h = length_overwritten image offset bytes h
made_length (zeros_at offset n) image h = let long : length (replicate {A = ℕ} n 0) ≡ n = length-replicate n 0 in length_overwritten image offset (replicate n 0) (omega arith)
made_length c image h = absurd h

pub called : (c : Content) (image : List ℕ) → Fits (length image) c → Called image c
called (data_at offset bytes) image h = λ holds. write_inside holds image offset bytes h
called (zeros_at offset n) image h = λ holds. zero_inside holds image offset n h
called c image h = absurd h

-- a state over another
byte_twice : (x : ℕ) (s t : Option Cell) → byte_over (byte_over x s) t ≡ byte_over x (state_over t s)
byte_twice x s None = refl
byte_twice x s (Some zeroed) = refl
byte_twice x s (Some (written b)) = refl

over_parts : (s t : Option Cell) → state_over s t ≡ None → (s ≡ None) × (t ≡ None)
over_parts None t e = (refl, e)
over_parts (Some m) t e = cc

-- the records of steps
abbrev pub records_of : List Step → List Content
records_of ss = map (λ s. s.1) ss

module _ (size : ℕ) where
  fits_at : (c : Content) (image : List ℕ) → length image ≡ size → Fits size c → Fits (length image) c
  fits_at c image e h = rw e h

  pub all_called : (ss : List Step) (image : List ℕ) → length image ≡ size → AllByRecursion (StepFits size) ss → AllCalled image ss
  all_called [] image e h = tt
  all_called (s ∷ ss) image e h =
      let f = fits_at s.1 image e h.0 in
      (called s.1 image f, all_called ss (made_by s.1 image) (made_length s.1 image f ∙ e) h.1)

  pub all_length : (ss : List Step) (image : List ℕ) → length image ≡ size → AllByRecursion (StepFits size) ss → length (made_by_all ss image) ≡ size
  all_length [] image e h = e
  all_length (s ∷ ss) image e h = all_length ss (made_by s.1 image) (made_length s.1 image (fits_at s.1 image e h.0) ∙ e) h.1

  -- the byte at a position after steps: the last record that covers it decides
  pub all_get_d : (ss : List Step) (image : List ℕ) (p : ℕ) → length image ≡ size → AllByRecursion (StepFits size) ss
      → get_or (made_by_all ss image) p 0 ≡ byte_over (get_or image p 0) (records_state (records_of ss) p)
  all_get_d [] image p e h = refl
  all_get_d (s ∷ ss) image p e h =
      let f = fits_at s.1 image e h.0 in
      all_get_d ss (made_by s.1 image) p (made_length s.1 image f ∙ e) h.1
      ∙ ap (λ x. byte_over x (records_state (records_of ss) p)) (made_getD s.1 image p f)
      ∙ byte_twice (get_or image p 0) (record_state s.1 p) (records_state (records_of ss) p)

  -- where the steps give a position nothing, it keeps its byte, whatever the outcome
  pub outcome_getD : (holds : Images) (ss : List Step) (image : List ℕ) (p : ℕ) → length image ≡ size → AllByRecursion (StepFits size) ss → records_state (records_of ss) p ≡ None
      → get_or (apply_steps holds image ss).1 p 0 ≡ get_or image p 0
  outcome_getD holds [] image p e h k = refl
  outcome_getD holds (s ∷ ss) image p e h k =
      let f = fits_at s.1 image e h.0 in
      let t = called s.1 image f in
      let nothing = over_parts (records_state (records_of ss) p) (record_state s.1 p) k in
      elim (cases_Bool (holds (made_by s.1 image))) [
        | inl y ↦
            ap (λ o. get_or o.1 p 0) (step_taken holds image s ss t y)
            ∙ outcome_getD holds ss (made_by s.1 image) p (made_length s.1 image f ∙ e) h.1 nothing.0
            ∙ made_getD s.1 image p f
            ∙ ap (byte_over (get_or image p 0)) nothing.1
        | inr n ↦ ap (λ o. get_or o.1 p 0) (step_refused holds image s ss t n)
      ]
