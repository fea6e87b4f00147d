-- The overlay of payload runs means the join of two sources, and the overlay of their ranges its
-- canonical records. Assumes nothing.
use Rattle.std.proofs.Common.{◌≡◌, ℕ, ◌+◌, ◌-◌, ◌^◌, ◌<◌, ◌≤◌, cond, ltb, List, [], ◌∷◌, map, length, Some, None, Ok, Option, sym, refl, ap, ◌∙◌, subst, ap₂, ⊎_elim, arith}
use Rattle.std.proofs.lemmas.Bool.{cases_lt, cond-true, cond-false, lt-ltb, le-ltb}
use Rattle.std.proofs.Math.Logic.{∥∥₁_elim}
use Rattle.std.specs.Option.{option_map}
use Rattle.overlay.specs.declared.runs.Run.{Run}
use Rattle.overlay.specs.declared.ranges.RangeMark.{RangeMark}
use Rattle.overlay.specs.declared.ranges.RangeMark.TheVariants as range
use Rattle.overlay.specs.declared.payloads.PayloadMark.{PayloadMark}
use Rattle.overlay.specs.declared.payloads.PayloadMark.TheVariants.{Zeroed, Written}
use Rattle.overlay.specs.declared.payloads.Side.{Side}
use Rattle.overlay.specs.declared.payloads.Side.TheVariants.{Earlier, Later}
use Rattle.overlay.specs.Marks.{payload_moves, range_moves, range_alike, range_filler, range_of}
use Rattle.overlay.specs.Payloads.{stream_of}
use Rattle.overlay.specs.States.{state_over, overlay_states}
use Rattle.overlay.specs.Runs.{run_end, run_at, state_at, run_states, overlay_state_at, Rising, RunsOf, with_mark, runs_from, overlay_runs}
use Rattle.overlay.proofs.RunPositions.{run_inside, run_before, run_after}
use Rattle.overlay.proofs.OverlayLaws.{overlaid_length, maps_through}
use Rattle.overlay.proofs.StateLists.{overlay_painted}
use Rattle.stream.specs.Meaning.{zeroed, mark_of, ranges}
use Rattle.stream.specs.Parts.{cell_of, parts_cells, PayloadIn, PayloadsIn}
use Rattle.stream.specs.Difference.{Difference, canonical_bytes}
use Rattle.stream.proofs.FoundRanges.{kinds_painted, length_cells}
use Rattle.stream.specs.declared.stream.Stream.{Stream}
use Rattle.stream.specs.Streams.{stream_cells, OnSide}
use Rattle.join.specs.Lies.{ByteThere, AllPlaced, all_placed_prop}
use Rattle.join.specs.Lengths.{stream_length}
use Rattle.join.specs.Plans.{within_limit}
use Rattle.join.specs.Joins.{streams_join, pair_join}
use Rattle.join.specs.declared.pairs.Pair.{Pair}
use Rattle.stream.proofs.StreamFacts.{small_size}
use Rattle.stream.proofs.GatheredRecords.{stream_both}
use Rattle.join.proofs.Payloads.{moves_plain}
use Rattle.join.proofs.ProofIdentity.{cells_set}
use Rattle.join.proofs.Records.{ranges_rise, length_canonical}

module _ (earlier later : List ℕ) where
  placed_over : (a b : Option PayloadMark) → ByteThere earlier later a → ByteThere earlier later b → ByteThere earlier later (state_over a b)
  placed_over None b x y = y
  placed_over (Some m) b x y = x

  -- the overlay of parts, as states and by kinds
  module _ (ds : List (Run PayloadMark)) (m : ℕ) (es : List (Run PayloadMark)) (n : ℕ) where
    overlay_cells : (parts : List (Run PayloadMark)) → RunsOf payload_moves (overlay_state_at payload_moves Zeroed ds m es) n parts
        → parts_cells earlier later parts n ≡ overlay_states zeroed (parts_cells earlier later ds m) (parts_cells earlier later es n)
    overlay_cells parts h =
        ap (map (option_map (cell_of earlier later))) (overlay_painted payload_moves Zeroed ds m es n parts h.paints)
        ∙ maps_through (cell_of earlier later) Zeroed (run_states payload_moves ds m) (run_states payload_moves es n)

    overlay_ranges : ranges (overlay_states zeroed (parts_cells earlier later ds m) (parts_cells earlier later es n))
        ≡ runs_from range_moves range_alike 0 (overlay_states range.Zeroed (run_states range_moves (map (with_mark range_of) ds) m) (run_states range_moves (map (with_mark range_of) es) n))
    unfolding ranges
    overlay_ranges =
        ap (runs_from range_moves range_alike 0)
        (maps_through mark_of zeroed (parts_cells earlier later ds m) (parts_cells earlier later es n)
        ∙ ap₂ (overlay_states range.Zeroed) (kinds_painted earlier later ds m) (kinds_painted earlier later es n))

    -- what the overlay of parts of two streams names is there too
    overlay_placed : AllPlaced earlier later ds m → AllPlaced earlier later es n → (parts : List (Run PayloadMark)) → RunsOf payload_moves (overlay_state_at payload_moves Zeroed ds m es) n parts → AllPlaced earlier later parts n
    overlay_placed d e parts h = λ p l.
        subst (ByteThere earlier later) (sym (h.paints p l))
        (placed_over (state_at payload_moves es p) (cond (ltb p m) (state_at payload_moves ds p) (Some Zeroed)) (e p l)
        (⊎_elim
        (λ a. subst (ByteThere earlier later) (sym (cond-true (ltb p m) (state_at payload_moves ds p) (Some Zeroed) (lt-ltb p m a))) (d p a))
        (λ b. subst (ByteThere earlier later) (sym (cond-false (ltb p m) (state_at payload_moves ds p) (Some Zeroed) (le-ltb p m b))) tt)
        (cases_lt p m)))

-- marks whose payload lies in the stream of their side name bytes that are there
module _ (earlier later : List ℕ) (side : Side) (fits : length (stream_of earlier later side) < 2 ^ 64) where
  mark_placed : (m : PayloadMark) (n k : ℕ) → k < n → PayloadIn side (stream_of earlier later side) m n → ByteThere earlier later (Some (payload_moves m k))
  mark_placed Zeroed n k lt h = tt
  mark_placed (Written s place) n k lt h =
      let e = ap (λ x. length (stream_of earlier later x)) h.0 in
      let u : place + k < 2 ^ 64 = omega (arith, h.1) in
      omega (arith, moves_plain place k u, h.1)

  run_placed : (r : Run PayloadMark) (p : ℕ) → PayloadIn side (stream_of earlier later side) r.mark r.length → ByteThere earlier later (run_at payload_moves r p)
  run_placed r p h =
      ⊎_elim
      (λ a. subst (ByteThere earlier later) (sym (run_before payload_moves r p a)) tt)
      (λ a.
      ⊎_elim
      (λ b. let lt : p - r.offset < r.length = omega arith in subst (ByteThere earlier later) (sym (run_inside payload_moves r p a b)) (mark_placed r.mark r.length (p - r.offset) lt h))
      (λ b. subst (ByteThere earlier later) (sym (run_after payload_moves r p b)) tt)
      (cases_lt p (run_end r)))
      (cases_lt p r.offset)

  runs_placed : (rs : List (Run PayloadMark)) (p : ℕ) → PayloadsIn side (stream_of earlier later side) rs → ByteThere earlier later (state_at payload_moves rs p)
  runs_placed [] p h = tt
  runs_placed (r ∷ rs) p h = placed_over earlier later (run_at payload_moves r p) (state_at payload_moves rs p) (run_placed r p h.0) (runs_placed rs p h.1)

-- a source on a side of two streams, where its bytes are that side's: what its runs mean, and that
-- what they name is there
module _ (side : Side) (s : Stream) (on : ∥ OnSide side s ∥₁) (earlier later : List ℕ) (is : stream_of earlier later side ≡ s.bytes.now) where
  pub told_cells : parts_cells earlier later s.sheet.runs.now s.sheet.size ≡ stream_cells s
  unfolding stream_cells
  told_cells = ∥∥₁_elim on (cells_set _ _) (λ r. r.stands.means earlier later is ∙ sym (r.stands.means s.bytes.now s.bytes.now (stream_both s.bytes.now side)))

  pub told_placed : length s.bytes.now < 2 ^ 64 → AllPlaced earlier later s.sheet.runs.now s.sheet.size
  told_placed short =
      ∥∥₁_elim on (all_placed_prop earlier later s.sheet.runs.now s.sheet.size)
      (λ r p _.
      runs_placed earlier later side (subst (λ (xs : List ℕ). length xs < 2 ^ 64) (sym is) short) s.sheet.runs.now p
      (subst (λ xs. PayloadsIn side xs s.sheet.runs.now) (sym is) r.stands.inside))

-- two sources, each on its side
module _ (earlier later : Stream) (was : ∥ OnSide Earlier earlier ∥₁) (is : ∥ OnSide Later later ∥₁) where
  -- what they mean, by the bytes of both
  sourced_cells : overlay_states zeroed (parts_cells earlier.bytes.now later.bytes.now earlier.sheet.runs.now earlier.sheet.size) (parts_cells earlier.bytes.now later.bytes.now later.sheet.runs.now later.sheet.size)
      ≡ (streams_join earlier later).cells
  sourced_cells =
      let eb = earlier.bytes.now in
      let lb = later.bytes.now in
      ap₂ (overlay_states zeroed) (told_cells Earlier earlier was eb lb refl) (told_cells Later later is eb lb refl)

  pub join_cells : (parts : List (Run PayloadMark)) → RunsOf payload_moves (overlay_state_at payload_moves Zeroed earlier.sheet.runs.now earlier.sheet.size later.sheet.runs.now) later.sheet.size parts
      → parts_cells earlier.bytes.now later.bytes.now parts later.sheet.size ≡ (streams_join earlier later).cells
  join_cells parts h = overlay_cells earlier.bytes.now later.bytes.now earlier.sheet.runs.now earlier.sheet.size later.sheet.runs.now later.sheet.size parts h ∙ sourced_cells

  pub join_placed : length earlier.bytes.now < 2 ^ 64 → length later.bytes.now < 2 ^ 64 → (parts : List (Run PayloadMark))
      → RunsOf payload_moves (overlay_state_at payload_moves Zeroed earlier.sheet.runs.now earlier.sheet.size later.sheet.runs.now) later.sheet.size parts
      → AllPlaced earlier.bytes.now later.bytes.now parts later.sheet.size
  join_placed short brief parts h =
      let eb = earlier.bytes.now in
      let lb = later.bytes.now in
      overlay_placed eb lb earlier.sheet.runs.now earlier.sheet.size later.sheet.runs.now later.sheet.size (told_placed Earlier earlier was eb lb refl short) (told_placed Later later is eb lb refl brief) parts h

  -- the overlay of the runs by their kinds gives the ranges of the join
  pub join_ranged : (bs cs : List (Run RangeMark)) (m n : ℕ) → bs ≡ map (with_mark range_of) earlier.sheet.runs.now → cs ≡ map (with_mark range_of) later.sheet.runs.now → m ≡ earlier.sheet.size → n ≡ later.sheet.size
      → overlay_runs range_moves range_alike range_filler bs m cs n ≡ ranges (streams_join earlier later).cells
  join_ranged bs cs m n b c k l =
      ap₂ (λ x y. overlay_runs range_moves range_alike range_filler x m y n) b c
      ∙ ap₂ (λ x y. overlay_runs range_moves range_alike range_filler (map (with_mark range_of) earlier.sheet.runs.now) x (map (with_mark range_of) later.sheet.runs.now) y) k l
      ∙ sym (overlay_ranges earlier.bytes.now later.bytes.now earlier.sheet.runs.now earlier.sheet.size later.sheet.runs.now later.sheet.size)
      ∙ ap ranges sourced_cells

-- a join is as long as the later difference
module _ (earlier later : Stream) where
  pub length_join : length (streams_join earlier later).cells ≡ later.sheet.size
  unfolding stream_cells
  length_join =
      overlaid_length zeroed (stream_cells earlier) (stream_cells later) ∙ length_cells later.bytes.now later.bytes.now later.sheet.runs.now later.sheet.size

  -- runs that are the ranges of the join
  module _ (rs : List (Run RangeMark)) (ranged : rs ≡ ranges (streams_join earlier later).cells) (fits : later.sheet.size < 2 ^ 64) where
    pub join_rises : Rising 0 rs later.sheet.size
    join_rises =
        let l = length_join in
        subst (λ q. Rising 0 q later.sheet.size) (sym ranged) (subst (λ n. Rising 0 (ranges (streams_join earlier later).cells) n) l (ranges_rise (streams_join earlier later).cells (omega arith)))

    pub join_length_by_ranges : stream_length earlier.from.now later.to.now rs ≡ length (canonical_bytes (streams_join earlier later))
    join_length_by_ranges =
        let l = length_join in
        ap (stream_length earlier.from.now later.to.now) ranged ∙ sym (length_canonical (streams_join earlier later) (omega arith))

-- room for the join of a pair is room for what the writing asks for
pub joined_room : (p : Pair) (rs : List (Run RangeMark)) (n : ℕ) → rs ≡ ranges (pair_join p).cells → length (canonical_bytes (pair_join p)) ≤ n → stream_length p.earlier.from.now p.later.to.now rs ≤ n
joined_room p rs n e room = omega (arith, join_length_by_ranges p.earlier p.later rs e (omega (arith, small_size p.later)), room)

pub limited_ok : {A : Type 0} (d : Difference) (x : A) → length (ranges d.cells) ≤ 512 → within_limit d x ≡ Ok x
limited_ok d x h = cond-false (ltb 512 (length (ranges d.cells))) _ _ (le-ltb 512 (length (ranges d.cells)) h)
