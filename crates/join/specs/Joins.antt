-- The join of two streams as bytes, or its refusal, and the canonical stream of one. Rests on
-- differences and their ranges, on streams that were read and plans, on the comparison of names,
-- and on faults.
use Rattle.std.specs.Prelude.{ℕ, if◌then◌else◌, List, Ok, Err, Result}
use Rattle.fault.specs.Fault.{fault, fault_by, in_entry, and_then}
use Rattle.fault.specs.declared.fault.Fault.{Fault}
use Rattle.fault.specs.declared.cause.Cause.TheVariants.{NamesDiffer}
use Rattle.stream.specs.Verdict.{same}
use Rattle.stream.specs.Difference.{Difference, meaning, join_difference, canonical_bytes}
use Rattle.stream.specs.Streams.{stream_difference}
use Rattle.stream.specs.declared.stream.Stream.{Stream}
use Rattle.join.specs.declared.pairs.Pair.{Pair}
use Rattle.join.specs.Plans.{within_limit}

-- the join of two differences as a stream: the later has to lead from where the earlier leads to
abbrev pub stream_of_join : Difference → Difference → Result (List ℕ) Fault
stream_of_join d e = if same e.from d.to then within_limit (join_difference d e) (canonical_bytes (join_difference d e)) else Err (fault NamesDiffer 0)

-- the join of two streams: the earlier stream's fault, the later one's, names that do not meet, too
-- many records, and else the bytes
abbrev pub joined_stream : List ℕ → List ℕ → Result (List ℕ) Fault
joined_stream earlier later =
    and_then (fault_by (in_entry 0) (meaning earlier)) (λ d. and_then (fault_by (in_entry 1) (meaning later)) (λ e. stream_of_join d e))

-- the canonical stream of a stream, or its fault
abbrev pub canonical_stream : List ℕ → Result (List ℕ) Fault
canonical_stream stream = and_then (meaning stream) (λ d. Ok (canonical_bytes d))

-- the join of what two streams mean, or the refusal: the earlier stream's fault, the later one's,
-- names that do not meet
abbrev pub joined_meaning : List ℕ → List ℕ → Result Difference Fault
joined_meaning earlier later =
    and_then (fault_by (in_entry 0) (meaning earlier))
    (λ d. and_then (fault_by (in_entry 1) (meaning later)) (λ e. if same e.from d.to then Ok (join_difference d e) else Err (fault NamesDiffer 0)))

-- the join of what two streams mean
abbrev pub streams_join : Stream → Stream → Difference
streams_join earlier later = join_difference (stream_difference earlier) (stream_difference later)

-- the join of a pair that was read
abbrev pub pair_join : Pair → Difference
pair_join p = streams_join p.earlier p.later

-- its canonical stream, or the refusal of more than 512 canonical records
abbrev pub pair_stream : Pair → Result (List ℕ) Fault
pair_stream p = within_limit (pair_join p) (canonical_bytes (pair_join p))

-- the same, or the fault of reading the pair
abbrev pub pair_meant : Result Pair Fault → Result Difference Fault
pair_meant (Ok p) = Ok (pair_join p)
pair_meant (Err f) = Err f
