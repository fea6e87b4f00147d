-- What a program makes of the bytes of files, by the definitions of the calls that it uses.
-- Rests on the definition of apply, on what a stream means, on a flat image's memory and on faults.
use Rattle.std.specs.Prelude.{◌≡◌, ℕ, ◌-◌, max, if◌then◌else◌, List, ◌++◌, length, take, drop, replicate, Ok, Err, Result, nat_lt}
use Rattle.fault.specs.Fault.{and_then}
use Rattle.fault.specs.declared.fault.Fault.{Fault}
use Rattle.store.specs.Memory.{flat_set}
use Rattle.store.specs.Stores.{Outcome, done}
use Rattle.stream.specs.Difference.{Difference, meaning}
use Rattle.apply.specs.Applies.{apply_answer}
use Rattle.file_calls.specs.declared.bytes.TheConstants.{MOST_BYTES}
use Rattle.file_calls.specs.declared.call_error.CallError.{CallError}
use Rattle.file_calls.specs.declared.call_error.CallError.TheVariants.{Refused, Memory}

-- a call that ended without its result: the definition has this fault, or memory ran out and
-- nothing is said
abbrev pub RefusedAs : {A : Type 0} → CallError → Result A Fault → Type 0
RefusedAs (Refused f) answer = answer ≡ Err f
RefusedAs (Memory e) answer = Unit {0}

-- how much memory an image gets: enough for its size before and after, where that is at most 2^32
-- bytes
abbrev pub memory_room : ℕ → ℕ → ℕ
memory_room before after = if nat_lt MOST_BYTES after then before else max before after

-- the memory for an image: its bytes, and zeros after them
abbrev pub image_memory : List ℕ → ℕ → List ℕ
image_memory bytes after = bytes ++ replicate (memory_room (length bytes) after - length bytes) 0

-- applying a stream to an image in memory, whose size before is given
abbrev pub memory_outcome : List ℕ → ℕ → List ℕ → List ℕ → Outcome
memory_outcome memory before name stream = apply_answer (flat_set memory) (take before memory) name stream

-- the outcome in memory: the answer, the size of the image afterwards, and the memory, which is as
-- it was past the image
pub record MemoryApplied (result : Result (Unit {0}) Fault × ℕ) (old new : List ℕ) (outcome : Outcome) : Type 0 where
  pub answer : result.0 ≡ outcome.0
  pub size : result.1 ≡ length outcome.1
  pub memory : new ≡ outcome.1 ++ drop (length outcome.1) old

-- the size that a difference gives an image; a refused stream gives none
abbrev pub size_after : Result Difference Fault → ℕ
size_after (Ok d) = length d.cells
size_after (Err f) = 0

-- the name that a stream leads to, or its fault
abbrev pub to_name_of : List ℕ → Result (List ℕ) Fault
to_name_of stream = and_then (meaning stream) (λ d. Ok d.to)

-- applying a stream to the image that a file has, whose snapshot has a name, where `after` is the
-- size that the stream gives it: the memory has room for the image before and after, unless that is
-- more than a file may have
abbrev pub grown_outcome : List ℕ → ℕ → List ℕ → List ℕ → Outcome
grown_outcome bytes after name stream = apply_answer (flat_set (image_memory bytes after)) bytes name stream

-- the same, with the size of the difference that the stream means
abbrev pub file_outcome : List ℕ → List ℕ → List ℕ → Outcome
file_outcome bytes name stream = grown_outcome bytes (size_after (meaning stream)) name stream

-- what came of it, with the bytes before and after: where memory ran out they are as they were
abbrev pub Applied : {A : Type 0} → Result A CallError → List ℕ → List ℕ → Outcome → Type 0
Applied (Ok x) old new outcome = outcome ≡ done new
Applied (Err (Refused f)) old new outcome = outcome ≡ (Err f, new)
Applied (Err (Memory e)) old new outcome = new ≡ old
