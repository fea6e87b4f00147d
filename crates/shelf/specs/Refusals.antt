-- What a refused call leaves: everything as it was, but for the image where the store stopped a
-- settle. Rests on series of calls, on faults and on the images of a store.
use Rattle.std.specs.Prelude.{◌≡◌, ℕ, List, Err, ◌≢◌}
use Rattle.fault.specs.declared.cause.Cause.TheVariants.{NoRoom}
use Rattle.fault.specs.declared.fault.Fault.{Fault}
use Rattle.store.specs.Stores.{Images}
use Rattle.shelf.specs.Calls.{Call, settle, buffer_in}
use Rattle.shelf.specs.Series.{World, outcome_of}

-- the image is as it was, unless a settle was refused for want of room in the store
abbrev pub ImageStays : Call → Fault → List ℕ → List ℕ → Type 0
ImageStays (settle k) f old new = (f.cause ≢ NoRoom) → new ≡ old
ImageStays c f old new = new ≡ old

pub record Unaltered (holds : Images) (w : World) (c : Call) (f : Fault) : Type 0 where
  pub table : (outcome_of holds w c).table ≡ w.table
  pub bytes : (outcome_of holds w c).bytes ≡ w.bytes
  pub buffer : (outcome_of holds w c).buffer ≡ buffer_in c
  pub image : ImageStays c f w.image (outcome_of holds w c).image

abbrev pub RefusalsAlterNothing : Type 0
RefusalsAlterNothing =
    (holds : Images) (w : World) (c : Call) (f : Fault)
    → (outcome_of holds w c).answer ≡ Err f → Unaltered holds w c f
