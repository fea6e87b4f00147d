-- The laws of joins and of canonical streams, in the words of differences, images and bytes. Rests
-- on Joins and Lengths, on differences and what streams mean, on sound lists, on reading, and on
-- overlay's marks, states and runs.
use Rattle.std.specs.Prelude.{◌≡◌, ℕ, ◌^◌, ◌<◌, List, map, length, Ok, Option}
use Rattle.std.specs.Option.{option_map}
use Rattle.overlay.specs.Marks.{range_moves, range_alike, range_filler}
use Rattle.overlay.specs.Runs.{run_states, Runs, runs_from}
use Rattle.overlay.specs.States.{overlay_states}
use Rattle.stream.specs.Records.{Content}
use Rattle.stream.specs.Verdict.{verdict}
use Rattle.stream.specs.Wellformed.{Bytes}
use Rattle.stream.specs.Sound.{Sound}
use Rattle.stream.specs.Meaning.{Cell, zeroed, mark_of, ranges}
use Rattle.stream.specs.Difference.{Difference, difference, meaning, join_difference, image_after, canonical_bytes, canonical_records, Expressible}
use Rattle.join.specs.Joins.{joined_stream, canonical_stream}
use Rattle.join.specs.Lengths.{stream_length}

-- joins are associative: names, size and every position are the same
abbrev pub JoinsAssociative : Type 0
JoinsAssociative = (a b c : Difference) → join_difference (join_difference a b) c ≡ join_difference a (join_difference b c)

-- joins of streams are associative: where the first two and the last two can be joined, both ways
-- to join all three answer the same, bytes or refusal
abbrev pub JoinedStreamsAssociative : Type 0
JoinedStreamsAssociative =
    (a b c ab bc : List ℕ) → Bytes a → Bytes b → Bytes c → joined_stream a b ≡ Ok ab → joined_stream b c ≡ Ok bc → joined_stream ab c ≡ joined_stream a bc

-- applying a join is applying the earlier difference and then the later one
abbrev pub AppliedInTurn : Type 0
AppliedInTurn = (d e : List (Option Cell)) (image : List ℕ) → image_after (overlay_states zeroed d e) image ≡ image_after e (image_after d image)

-- the ranges of a join are the overlay of the two differences' ranges, with range marks
abbrev pub RangesOverlaid : Type 0
RangesOverlaid =
    (d e : List (Option Cell)) → length d < 2 ^ 64 → length e < 2 ^ 64
    → ranges (overlay_states zeroed d e) ≡ runs_from range_moves range_alike 0 (overlay_states range_filler (run_states range_moves (ranges d) (length d)) (run_states range_moves (ranges e) (length e)))

-- a joined stream means the join of what the two streams mean
abbrev pub JoinMeans : Type 0
JoinMeans =
    (a b ab : List ℕ) → Bytes a → Bytes b → joined_stream a b ≡ Ok ab
    → (d : Difference) × (e : Difference) × (meaning a ≡ Ok d) × (meaning b ≡ Ok e) × (meaning ab ≡ Ok (join_difference d e))

-- the ranges rise, no two that touch have one mark, and they say of each position what the
-- difference says: zeroed, written or kept
abbrev pub RangesAreRuns : Type 0
RangesAreRuns = (ds : List (Option Cell)) → length ds < 2 ^ 64 → Runs range_moves (map (option_map mark_of) ds) (ranges ds)

-- the length of a canonical stream follows from its names and ranges
abbrev pub LengthByRanges : Type 0
LengthByRanges = (d : Difference) → length d.cells < 2 ^ 64 → length (canonical_bytes d) ≡ stream_length d.from d.to (ranges d.cells)

-- the canonical stream of a difference reads back as its canonical records, which mean the
-- difference; and it is its own canonical stream
pub record CanonicalStream (d : Difference) : Type 0 where
  pub reads_back : verdict (canonical_bytes d) ≡ Ok (canonical_records d)
  pub means : difference (canonical_records d) ≡ d
  pub own : canonical_stream (canonical_bytes d) ≡ Ok (canonical_bytes d)

abbrev pub ExpressibleReadBack : Type 0
ExpressibleReadBack = (d : Difference) → Expressible d → CanonicalStream d

-- what a sound list of records means can be expressed, so an accepted stream has at most 512 ranges
-- and a canonical stream
abbrev pub SoundExpressible : Type 0
SoundExpressible = (cs : List Content) → Sound cs → Expressible (difference cs)

-- the canonical stream of a stream means what the stream means
abbrev pub CanonicalMeans : Type 0
CanonicalMeans = (a c : List ℕ) → Bytes a → canonical_stream a ≡ Ok c → meaning c ≡ meaning a
