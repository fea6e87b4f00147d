-- The ledger of a series of calls: which of the accepted streams were settled, and which belong to
-- each entry. It gets every call with its arguments and whether it was refused, and nothing else.
-- Rests on the calls alone.
use Rattle.std.specs.Prelude.{ℕ, zero, suc, Bool, if◌then◌else◌, List, [], ◌∷◌, ◌++◌, fold}
use Rattle.std.specs.List.{flat_map}
use Rattle.shelf.specs.Calls.{Call, put, join, settle}

-- a stretch: successive streams, at least one, oldest first
pub record Stretch : Type 0 where
  pub oldest : List ℕ
  pub later : List (List ℕ)

abbrev pub streams_of : Stretch → List (List ℕ)
streams_of s = s.oldest ∷ s.later

abbrev pub lone : List ℕ → Stretch
lone stream = record { oldest = stream; later = [] }

abbrev pub both : Stretch → Stretch → Stretch
both s t = record { oldest = s.oldest; later = s.later ++ streams_of t }

-- items i and i + 1 of a list as one
abbrev pub neighbours_as_one : {X : Type 0} → (X → X → X) → ℕ → List X → List X
neighbours_as_one f i [] = []
neighbours_as_one f i (x ∷ []) = x ∷ []
neighbours_as_one f zero (x ∷ y ∷ ys) = f x y ∷ ys
neighbours_as_one f (suc i) (x ∷ y ∷ ys) = x ∷ neighbours_as_one f i (y ∷ ys)

-- the settled streams, and a stretch for each entry
pub record Ledger : Type 0 where
  pub settled : List (List ℕ)
  pub stretches : List Stretch

abbrev pub empty_ledger : Ledger
empty_ledger = record { settled = []; stretches = [] }

-- the first stretch moved to the end of the settled streams
abbrev pub settle_first : Ledger → List Stretch → Ledger
settle_first l [] = record l { stretches = [] }
settle_first l (s ∷ ss) = record l { settled = l.settled ++ streams_of s; stretches = ss }

-- what a call that was not refused does to the ledger, and the streams that it accepts: put begins
-- a new last stretch, join unites two neighbours, settle moves the first stretch
abbrev pub ledger_after : Ledger → Call → Ledger
ledger_after l (put handed stream) = record l { stretches = l.stretches ++ (lone stream ∷ []) }
ledger_after l (join handed i work) = record l { stretches = neighbours_as_one both i l.stretches }
ledger_after l (settle handed) = settle_first l l.stretches
ledger_after l c = l

abbrev pub accepts : Call → List (List ℕ)
accepts (put handed stream) = stream ∷ []
accepts c = []

-- a call, and whether it was refused
pub record Fed : Type 0 where
  pub call : Call
  pub refused : Bool

abbrev pub ledger_with : Ledger → Fed → Ledger
ledger_with l f = if f.refused then l else ledger_after l f.call

abbrev pub ledger : List Fed → Ledger
ledger fs = fold ledger_with empty_ledger fs

-- all streams that put accepted, in order
abbrev pub streams_accepted_by : Fed → List (List ℕ)
streams_accepted_by f = if f.refused then [] else accepts f.call

abbrev pub accepted_streams : List Fed → List (List ℕ)
accepted_streams fs = flat_map streams_accepted_by fs
