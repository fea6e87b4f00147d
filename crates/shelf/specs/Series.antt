-- Every series of calls on one shelf, its bytes and the base image: what each call answers, and
-- what is there in the end. Rests on the calls and their outcomes, on the events of the ledger, on
-- the table, on faults and on the images of a store.
use Rattle.std.specs.Prelude.{ℕ, max, List, [], ◌∷◌, ◌++◌, length, take, drop, is_err, Result}
use Rattle.fault.specs.declared.fault.Fault.{Fault}
use Rattle.store.specs.Stores.{Images}
use Rattle.table.specs.Tables.{Table, empty_table}
use Rattle.shelf.specs.Outcomes.{CallOutcome, put_outcome, join_outcome, settle_outcome, list_outcome}
use Rattle.shelf.specs.Calls.{Call, put, join, settle, list}
use Rattle.shelf.specs.Ledger.{Fed}

-- a shelf with its bytes and the base image
pub record World : Type 0 where
  pub table : Table
  pub bytes : List ℕ
  pub image : List ℕ

-- an empty shelf beside a base image
abbrev pub first_world : List ℕ → List ℕ → List ℕ → World
first_world name bytes image = record { table = empty_table name; bytes = bytes; image = image }

-- a call that got the first k of the shelf's bytes, and the whole bytes: those beyond stay
abbrev pub outcome_in_bytes : ℕ → List ℕ → CallOutcome → CallOutcome
outcome_in_bytes k bytes o = record o { bytes = o.bytes ++ drop k bytes }

-- the same of a call that did not get the base image: it stays
abbrev pub outcome_beside : ℕ → World → CallOutcome → CallOutcome
outcome_beside k w o = record (outcome_in_bytes k w.bytes o) { image = w.image }

-- a call as it was made: its arguments, its answer, and what its buffer then held
pub record Event : Type 0 where
  pub call : Call
  pub answer : Result ℕ Fault
  pub buffer : List ℕ

-- what of it the ledger gets
abbrev pub fed_call : Event → Fed
fed_call e = record { call = e.call; refused = is_err e.answer }

-- `holds` is the set of images that the store can hold
module _ (holds : Images) where
  -- the outcome of any call: this is the one place that names each kind of call
  abbrev pub outcome_of : World → Call → CallOutcome
  outcome_of w (put k stream) = outcome_beside k w (put_outcome w.table (take k w.bytes) stream)
  outcome_of w (join k i work) = outcome_beside k w (join_outcome w.table (take k w.bytes) i work)
  outcome_of w (settle k) = outcome_in_bytes k w.bytes (settle_outcome holds w.table (take k w.bytes) w.image)
  outcome_of w (list k i text) = outcome_beside k w (list_outcome w.table (take k w.bytes) i text)

  abbrev pub event : World → Call → Event
  event w c = record { call = c; answer = (outcome_of w c).answer; buffer = (outcome_of w c).buffer }

  -- the shelf, its bytes and the image after a call
  abbrev pub world_after : World → Call → World
  world_after w c = record { table = (outcome_of w c).table; bytes = (outcome_of w c).bytes; image = (outcome_of w c).image }

  -- a series: the calls as they were made, and what is there after the last
  abbrev pub events : World → List Call → List Event
  events w [] = []
  events w (c ∷ cs) = event w c ∷ events (world_after w c) cs

  abbrev pub last_world : World → List Call → World
  last_world w [] = w
  last_world w (c ∷ cs) = last_world (world_after w c) cs

  -- the largest size that the image has after any of the calls
  abbrev pub largest_size : World → List Call → ℕ
  largest_size w [] = 0
  largest_size w (c ∷ cs) = max (length (world_after w c).image) (largest_size (world_after w c) cs)
