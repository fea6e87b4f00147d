-- The contract of a store: what each call answers, and what it leaves. Rests on the faults, and on
-- what a call makes of an image.
use Rattle.std.specs.Prelude.{◌≡◌, ℕ, ◌+◌, ◌≤◌, Bool, true, if◌then◌else◌, List, length, replicate, Ok, Err, Result, nat_le}
use Rattle.fault.specs.declared.cause.Cause.{Cause}
use Rattle.fault.specs.declared.cause.Cause.TheVariants.{Outside, NoRoom}
use Rattle.fault.specs.declared.fault.Fault.{Fault}
use Rattle.fault.specs.Fault.{fault}
use Rattle.store.specs.declared.contract.TheConstants.{LIMIT}
use Rattle.store.specs.Images.{part, image_with, image_of_size}

-- a set of images, by the test of what it has
abbrev pub Images : Type 0
Images = List ℕ → Bool

-- the set of a store has the present image, and none above the limit
pub record Laws {S : Type 0} (image : S → List ℕ) (holds : S → Images) : Type 0 where
  pub present : (s : S) → holds s (image s) ≡ true
  pub limited : (s : S) (b : List ℕ) → holds s b ≡ true → length b ≤ LIMIT

-- an answer, with the bytes that the call leaves: those of the image, or of the buffer of a read
abbrev pub Outcome : Type 0
Outcome = Result (Unit {0}) Fault × List ℕ

abbrev pub done : List ℕ → Outcome
done bytes = (Ok tt, bytes)

-- a refusal leaves the bytes as they were
abbrev pub refusal : Cause → ℕ → List ℕ → Outcome
refusal cause place bytes = (Err (fault cause place), bytes)

-- one call, and if it is accepted, the next
abbrev pub outcome_and_then : Outcome → (List ℕ → Outcome) → Outcome
outcome_and_then first next = elim first.0 [ Ok u ↦ next first.1 | Err f ↦ first ]

-- a change, refused exactly if the set does not have the new image
abbrev pub if_held : Images → ℕ → List ℕ → List ℕ → Outcome
if_held holds place old new = if holds new then done new else refusal NoRoom place old

-- whether a range ends inside an image of a size: if not, its offset is the place of the fault
abbrev pub range_answer : ℕ → ℕ → ℕ → Result (Unit {0}) Fault
range_answer offset count size = if nat_le (offset + count) size then Ok tt else Err (fault Outside offset)

-- a call on a range, refused exactly if offset and length together pass the image's size
abbrev pub if_inside : List ℕ → ℕ → ℕ → Outcome → Outcome → Outcome
if_inside image offset count outcome outside = if nat_le (offset + count) (length image) then outcome else outside

abbrev pub read_outcome : List ℕ → ℕ → List ℕ → Outcome
read_outcome image offset buf = if_inside image offset (length buf) (done (part image offset (length buf))) (refusal Outside offset buf)

abbrev pub write_outcome : Images → List ℕ → ℕ → List ℕ → Outcome
write_outcome holds old offset bytes = if_inside old offset (length bytes) (if_held holds offset old (image_with old offset bytes)) (refusal Outside offset old)

abbrev pub zero_outcome : Images → List ℕ → ℕ → ℕ → Outcome
zero_outcome holds old offset count = if_inside old offset count (if_held holds offset old (image_with old offset (replicate count 0))) (refusal Outside offset old)

abbrev pub resize_outcome : Images → List ℕ → ℕ → Outcome
resize_outcome holds old size = if_held holds size old (image_of_size old size)

-- where the changes of a call end: a refused call changes nothing
abbrev pub reach : Result (Unit {0}) Fault → ℕ → ℕ
reach (Ok u) end = end
reach (Err f) end = 0

-- from a position on, a store's memory is as it was, and it is the same memory
abbrev pub KeepsPast : {S R : Type 0} → (S → ℕ → R) → S → S → ℕ → Type 0
KeepsPast past old new end = (n : ℕ) → end ≤ n → past new n ≡ past old n
