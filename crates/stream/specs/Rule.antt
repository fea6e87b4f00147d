-- What a tag may do depends on the reader's state and the tag together: here are the states, and
-- each tag's rule over them. Rests on faults.
use Rattle.std.specs.Prelude.{Bool, true, if◌then◌else◌, Ok, Err, Result}
use Rattle.fault.specs.declared.cause.Cause.{Cause}
use Rattle.fault.specs.declared.cause.Cause.TheVariants.{Misplaced, Incomplete}

-- which of the metadata was read: f, t and s
pub record Seen : Type 0 where
  pub from : Bool
  pub to : Bool
  pub sized : Bool

-- what was read so far: metadata only, or data too
pub data State : Type 0 where
  Meta : Seen → State
  Data : State

-- metadata alone was read: whether f, t and s were
abbrev pub meta : Bool → Bool → Bool → State
meta from to sized = Meta (record { from = from; to = to; sized = sized })

-- with f, with t and with s
abbrev pub seen_from : Seen → State
seen_from s = meta true s.to s.sized

abbrev pub seen_to : Seen → State
seen_to s = meta s.from true s.sized

abbrev pub seen_size : Seen → State
seen_size s = meta s.from s.to true

-- what metadata of a kind does in each state: the state that follows, or the cause
abbrev pub meta_rule : (Seen → Bool) → (Seen → State) → State → Result State Cause
meta_rule kind after (Meta s) = if kind s then Err Misplaced else Ok (after s)
meta_rule kind after Data = Err Misplaced

-- f, t and s
abbrev pub from_rule : State → Result State Cause
from_rule s = meta_rule (λ seen. seen.from) seen_from s

abbrev pub to_rule : State → Result State Cause
to_rule s = meta_rule (λ seen. seen.to) seen_to s

abbrev pub size_rule : State → Result State Cause
size_rule s = meta_rule (λ seen. seen.sized) seen_size s

-- w, z and e: the to name and the size have to be there
abbrev pub late_rule : State → Result State Cause
late_rule (Meta s) = if s.to then (if s.sized then Ok Data else Err Incomplete) else Err Incomplete
late_rule Data = Ok Data
