-- What code over any store learns from an outcome. Rests on the contract of a store.
use Rattle.std.proofs.Common.{◌≡◌, ℕ, ◌+◌, ◌≤◌, Bool, true, false, leb, cond, List, length, replicate, Result, sym, refl, subst, zero-le, arith}
use Rattle.std.proofs.lemmas.Bool.{cond-true, cond-false, le-leb, leb-true}
use Rattle.fault.specs.declared.cause.Cause.TheVariants.{Outside, NoRoom}
use lib.ListN.{length-replicate}
use Rattle.fault.specs.declared.fault.Fault.{Fault}
use Rattle.store.specs.Images.{image_with}
use Rattle.store.specs.Stores.{Images, Outcome, done, refusal, if_held, if_inside, reach, write_outcome, zero_outcome}
use Rattle.store.proofs.ImageLaws.{length_overwritten}

-- a change, by the set's answer
module _ (holds : Images) (place : ℕ) (old new : List ℕ) where
  pub held : holds new ≡ true → if_held holds place old new ≡ done new
  held h = cond-true (holds new) (done new) (refusal NoRoom place old) h

  pub unheld : holds new ≡ false → if_held holds place old new ≡ refusal NoRoom place old
  unheld h = cond-false (holds new) (done new) (refusal NoRoom place old) h

-- a call whose range ends inside the image
module _ (image : List ℕ) (offset count : ℕ) (inside : offset + count ≤ length image) where
  pub is_inside : (accepted otherwise : Outcome) → if_inside image offset count accepted otherwise ≡ accepted
  is_inside accepted otherwise = cond-true (leb (offset + count) (length image)) accepted otherwise (le-leb (offset + count) (length image) inside)

pub write_inside : (holds : Images) (old : List ℕ) (offset : ℕ) (bytes : List ℕ) → offset + length bytes ≤ length old → write_outcome holds old offset bytes ≡ if_held holds offset old (image_with old offset bytes)
write_inside holds old offset bytes h = is_inside old offset (length bytes) h (if_held holds offset old (image_with old offset bytes)) (refusal Outside offset old)

pub zero_inside : (holds : Images) (old : List ℕ) (offset count : ℕ) → offset + count ≤ length old → zero_outcome holds old offset count ≡ if_held holds offset old (image_with old offset (replicate count 0))
zero_inside holds old offset count h = is_inside old offset count h (if_held holds offset old (image_with old offset (replicate count 0))) (refusal Outside offset old)

-- the image keeps its size, and what changed ends inside it
Bounds : List ℕ → ℕ → Outcome → Type 0
Bounds old end o = (length o.1 ≡ length old) × (reach o.0 end ≤ length old)

by_answers : (inside fits : Bool) (old new : List ℕ) (place end : ℕ) → (inside ≡ true → end ≤ length old) → (inside ≡ true → length new ≡ length old)
    → Bounds old end (cond inside (cond fits (done new) (refusal NoRoom place old)) (refusal Outside place old))
unfolding Bounds
by_answers true true old new place end h k = (k refl, h refl)
by_answers true false old new place end h k = (refl, zero-le)
by_answers false fits old new place end h k = (refl, zero-le)

-- bytes that were put inside, or refused
put_bounds : (holds : Images) (old : List ℕ) (offset count : ℕ) (bytes : List ℕ) → length bytes ≡ count → Bounds old (offset + count) (if_inside old offset count (if_held holds offset old (image_with old offset bytes)) (refusal Outside offset old))
put_bounds holds old offset count bytes e =
    by_answers (leb (offset + count) (length old)) (holds (image_with old offset bytes)) old (image_with old offset bytes) offset (offset + count)
    (λ h. leb-true (offset + count) (length old) h)
    (λ h. let l = leb-true (offset + count) (length old) h in length_overwritten old offset bytes (omega arith))

module _ (holds : Images) (old : List ℕ) (offset : ℕ) where
  pub write_bounds : (bytes : List ℕ) (r : Result (Unit {0}) Fault) (new : List ℕ) → (r, new) ≡ write_outcome holds old offset bytes → (length new ≡ length old) × (reach r (offset + length bytes) ≤ length old)
  unfolding Bounds
  write_bounds bytes r new e = subst (Bounds old (offset + length bytes)) (sym e) (put_bounds holds old offset (length bytes) bytes refl)

  pub zero_bounds : (count : ℕ) (r : Result (Unit {0}) Fault) (new : List ℕ) → (r, new) ≡ zero_outcome holds old offset count → (length new ≡ length old) × (reach r (offset + count) ≤ length old)
  unfolding Bounds
  zero_bounds count r new e = subst (Bounds old (offset + count)) (sym e) (put_bounds holds old offset count (replicate count 0) (length-replicate {A = ℕ} count 0))
