-- What a stream keeps of its reading, and the length of its canonical stream, by its ranges.
-- Assumes nothing.
use Rattle.std.proofs.Common.{◌≡◌, ℕ, ◌+◌, ◌*◌, ◌^◌, ◌<◌, ◌≤◌, List, [], ◌∷◌, length, take, sym, refl, ap, ◌∙◌, subst, arith, length-append}
use Rattle.std.proofs.Math.Logic.{∥∥₁_elim}
use Rattle.overlay.specs.declared.runs.Run.{Run}
use Rattle.overlay.specs.declared.ranges.RangeMark.{RangeMark}
use Rattle.overlay.specs.Runs.{run_end, Rising}
use Rattle.stream.specs.Records.{from_name, record_bytes, records_bytes, from_records}
use Rattle.stream.specs.Meaning.{ranges}
use Rattle.stream.specs.Parts.{part_ranges, RangesFound}
use Rattle.stream.specs.Difference.{canonical_bytes}
use Rattle.stream.specs.declared.stream.Stream.{Stream}
use Rattle.join.specs.Lies.{AllPlaced, all_placed_prop}
use Rattle.stream.specs.Streams.{stream_cells, stream_difference}
use Rattle.overlay.specs.Buffers.{first_places}
use Rattle.join.specs.Plans.{PlanFound}
use Rattle.join.specs.Lengths.{records_length, stream_length}
use Rattle.join.proofs.PairOverlays.{told_placed}
use Rattle.stream.proofs.GatheredRecords.{stream_both}
use Rattle.stream.proofs.StreamFacts.{small_size, short_from, short_to, length_own, cells_ranges}
use Rattle.join.proofs.Records.{ranges_rise, record_most, length_canonical}

module _ (s : Stream) where
  -- what its runs name is in its own bytes
  pub own_placed : length s.bytes.now < 2 ^ 64 → AllPlaced s.bytes.now s.bytes.now s.sheet.runs.now s.sheet.size
  own_placed short =
      let xs = s.bytes.now in
      ∥∥₁_elim s.was_read (all_placed_prop xs xs s.sheet.runs.now s.sheet.size) (λ r. told_placed r.0 s ∣ r.1 ∣₁ xs xs (stream_both xs r.0) short)

  module _ (rs : List (Run RangeMark)) (e : rs ≡ part_ranges s.sheet.runs.now s.sheet.size) where
    pub own_rises : Rising 0 rs s.sheet.size
    own_rises =
        let l = length_own s in
        let r = ranges_rise (stream_cells s) (omega (arith, small_size s)) in
        subst (λ v. Rising 0 v s.sheet.size) (cells_ranges s ∙ sym e) (subst (λ n. Rising 0 (ranges (stream_cells s)) n) l r)

    pub own_length : length (canonical_bytes (stream_difference s)) ≡ stream_length s.from.now s.to.now rs
    own_length =
        let l = length_own s in
        length_canonical (stream_difference s) (omega (arith, small_size s)) ∙ ap (stream_length s.from.now s.to.now) (cells_ranges s ∙ sym e)

-- a stream's canonical stream is short
records_most : (a b : ℕ) (rs : List (Run RangeMark)) → Rising a rs b → records_length rs + 18 * a ≤ 18 * b
records_most a b [] h = omega arith
records_most a b (r ∷ rs) h = omega (arith, record_most r h.1, records_most (run_end r) b rs h.2, h.0)

from_most : (from : List ℕ) → length (records_bytes (from_records from)) ≤ 5 + length from
from_most [] = omega arith
from_most (b ∷ bs) = omega (arith, length-append (record_bytes (from_name (b ∷ bs))) [])

pub stream_short : (s : Stream) → length (canonical_bytes (stream_difference s)) ≤ 2 ^ 50
stream_short s =
    let rs = part_ranges s.sheet.runs.now s.sheet.size in
    omega (arith, own_length s rs refl, records_most 0 s.sheet.size rs (own_rises s rs refl), from_most s.from.now, small_size s, short_from s, short_to s)

-- the plan of a stream, by the ranges that were found
module _ (s : Stream) (count : ℕ) (before after : List (Run RangeMark)) (h : RangesFound (part_ranges s.sheet.runs.now s.sheet.size) count before after) where
  pub found_rise : Rising 0 (take count after) s.sheet.size
  found_rise = own_rises s (take count after) h.found

  pub plan_found : (n : ℕ) → n ≡ stream_length s.from.now s.to.now (take count after) → PlanFound (stream_difference s) (record { count = count; length = n }) before after
  plan_found n e =
      let is = cells_ranges s in
      record {
        is_plan = λ i. record { count = (h.count ∙ ap length (sym is)) i; length = (e ∙ sym (own_length s (take count after) h.found)) i };
        few = h.few;
        found = h.found ∙ sym is;
        places = h.places ∙ ap (λ rs. first_places rs before) (sym is);
      }
