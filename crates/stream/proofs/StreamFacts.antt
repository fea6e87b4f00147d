-- What a stream keeps of its reading.
use Rattle.std.proofs.Common.{◌≡◌, ◌^◌, ◌≤◌, List, ℕ, length, Ok, Err, Result, refl}
use Rattle.std.proofs.Math.Logic.{∥∥₁_elim}
use Rattle.std.specs.Coded.{le_prop}
use Rattle.fault.specs.Fault.{and_then}
use Rattle.fault.specs.declared.fault.Fault.{Fault}
use Rattle.stream.specs.Records.{Content}
use Rattle.stream.specs.Verdict.{verdict}
use Rattle.stream.specs.Meaning.{cells, ranges}
use Rattle.stream.specs.Parts.{part_ranges, stream_ranges}
use Rattle.stream.specs.Difference.{difference, meaning}
use Rattle.stream.specs.Streams.{stream_cells}
use Rattle.stream.specs.declared.stream.Stream.{Stream}
use Rattle.stream.proofs.FoundRanges.{part_ranges_are, length_cells}

module _ (s : Stream) where
  pub few_runs : length s.sheet.runs.now ≤ 512
  few_runs = ∥∥₁_elim s.was_read le_prop (λ r. r.1.stands.few)

  pub small_size : s.sheet.size ≤ 2 ^ 40
  small_size = ∥∥₁_elim s.was_read le_prop (λ r. r.1.stands.small)

  pub short_from : length s.from.now ≤ 64
  short_from = ∥∥₁_elim s.was_read le_prop (λ r. r.1.from_short)

  pub short_to : length s.to.now ≤ 64
  short_to = ∥∥₁_elim s.was_read le_prop (λ r. r.1.to_short)

  pub length_own : length (stream_cells s) ≡ s.sheet.size
  unfolding stream_cells
  length_own = length_cells s.bytes.now s.bytes.now s.sheet.runs.now s.sheet.size

  -- its ranges, as the code finds them
  pub cells_ranges : ranges (stream_cells s) ≡ part_ranges s.sheet.runs.now s.sheet.size
  unfolding stream_cells
  cells_ranges = part_ranges_are s.bytes.now s.bytes.now s.sheet.runs.now s.sheet.size

-- the ranges of a stream are those of its difference
ranges_of : (o : Result (List Content) Fault) → and_then o (λ cs. Ok (ranges (cells cs))) ≡ and_then (and_then o (λ cs. Ok (difference cs))) (λ d. Ok (ranges d.cells))
ranges_of (Ok cs) = refl
ranges_of (Err f) = refl

pub ranges_meant : (bytes : List ℕ) → stream_ranges bytes ≡ and_then (meaning bytes) (λ d. Ok (ranges d.cells))
unfolding stream_ranges meaning
ranges_meant bytes = ranges_of (verdict bytes)
