-- The bytes of canonical records, one after another, and their lengths. Assumes nothing.
use Rattle.std.proofs.Common.{◌≡◌, ℕ, ◌+◌, ◌*◌, ◌^◌, ◌<◌, ◌≤◌, List, [], ◌∷◌, ◌++◌, map, length, get_or, take, drop, None, Option, sym, refl, ap, ◌∙◌, subst, arith}
use Rattle.std.proofs.lemmas.List.{append_assoc, append-nil, length-append, length-map, get_or-map, drop_more, take_more, map_push}
use Rattle.std.specs.Option.{option_map}
use Rattle.overlay.specs.declared.runs.Run.{Run}
use Rattle.overlay.specs.declared.ranges.RangeMark.{RangeMark}
use Rattle.overlay.specs.declared.ranges.RangeMark.TheVariants as range
use Rattle.overlay.specs.declared.payloads.PayloadMark.{PayloadMark}
use Rattle.overlay.specs.Marks.{payload_moves, range_moves, range_of}
use Rattle.overlay.specs.Runs.{run_end, state_at, Rising}
use Rattle.overlay.proofs.RunPositions.{at_inside, at_past, rising_le}
use Rattle.overlay.proofs.StateLists.{runs_states}
use Rattle.stream.specs.Records.{Content, header, record_bytes, records_bytes, metas}
use Rattle.stream.specs.Meaning.{Cell, mark_of, ranges}
use Rattle.stream.specs.Parts.{parts_cells}
use Rattle.stream.specs.Difference.{Difference, payload_at, range_content, content_of, canonical_bytes}
use Rattle.stream.proofs.FoundRanges.{kinds_agree, length_cells, ranges_runs}
use Rattle.stream.proofs.RangeCounts.{total_cost}
use Rattle.writer.specs.Fields.{opening}
use Rattle.writer.proofs.StreamHead.{length_opening}
use Rattle.join.specs.Lengths.{marked_length, record_length, records_length, stream_length}
use Rattle.join.specs.Parts.{AllRanged}
use Rattle.stream.proofs.StreamMeaning.{encodings_append}
use Rattle.join.proofs.Payloads.{length_payload, cells_at}

pub length_marked : (m : RangeMark) (o n : ℕ) (bs : List ℕ) → length bs ≡ n → length (record_bytes (range_content m o n bs)) ≡ marked_length m n
length_marked range.Zeroed o n bs e = refl
length_marked range.Written o n bs e = omega arith

pub length_record : (ds : List (Option Cell)) (r : Run RangeMark) → run_end r ≤ length ds → length (record_bytes (content_of ds r)) ≡ record_length r
length_record ds r h = length_marked r.mark r.offset r.length (payload_at ds r.offset r.length) (length_payload ds r.offset r.length h)

marked_most : (m : RangeMark) (n : ℕ) → 1 ≤ n → marked_length m n ≤ 18 * n
marked_most range.Zeroed n h = omega arith
marked_most range.Written n h = omega arith

pub record_most : (r : Run RangeMark) → 1 ≤ r.length → record_length r ≤ 18 * r.length
record_most r h = marked_most r.mark r.length h

-- two ranges of a kind are shorter as one record
pub one_head : (m : RangeMark) (a b : ℕ) → marked_length m (a + b) < marked_length m a + marked_length m b
one_head range.Zeroed a b = omega arith
one_head range.Written a b = omega arith

pub records_cost : (rs : List (Run RangeMark)) → total_cost marked_length rs ≡ records_length rs
records_cost [] = refl
records_cost (r ∷ rs) = ap (λ n. record_length r + n) (records_cost rs)

-- one record more
bytes_push : (cs : List Content) (c : Content) → records_bytes (cs ++ c ∷ []) ≡ records_bytes cs ++ record_bytes c
bytes_push cs c = encodings_append cs (c ∷ []) ∙ ap (λ q. records_bytes cs ++ q) (append-nil (record_bytes c))

pub length_records : (ds : List (Option Cell)) (a b : ℕ) (rs : List (Run RangeMark)) → Rising a rs b → b ≤ length ds → length (records_bytes (map (content_of ds) rs)) ≡ records_length rs
length_records ds a b [] h l = refl
length_records ds a b (r ∷ rs) h l =
    let u = rising_le (run_end r) b rs h.2 in
    length-append (record_bytes (content_of ds r)) (records_bytes (map (content_of ds) rs))
    ∙ omega (arith, length_record ds r (omega arith), length_records ds (run_end r) b rs h.2 l)

module _ (parts : List (Run PayloadMark)) (size : ℕ) where
  -- runs that rise and say of each position what the parts say are ranges of these
  ranged_from : (a b : ℕ) (rs : List (Run RangeMark)) → Rising a rs b → b ≤ size → ((p : ℕ) → a ≤ p → p < size → state_at range_moves rs p ≡ option_map range_of (state_at payload_moves parts p)) → AllRanged parts size rs
  ranged_from a b [] h l same = tt
  ranged_from a b (r ∷ rs) h l same =
      let u = rising_le (run_end r) b rs h.2 in (
        record {
          within = omega arith;
          alike = λ p x y.
              let i : a ≤ p = omega arith in
              let k : p < size = omega arith in
              sym (same p i k) ∙ (at_inside range_moves r rs p x y);
        },
        ranged_from (run_end r) b rs h.2 l
            (λ p x y.
            let i : a ≤ p = omega arith in
            sym ((at_past range_moves r rs p x)) ∙ same p i y),
      )

pub ranges_rise : (ds : List (Option Cell)) → length ds < 2 ^ 64 → Rising 0 (ranges ds) (length ds)
ranges_rise ds fits = subst (λ n. Rising 0 (ranges ds) n) (length-map ds (option_map mark_of)) (ranges_runs ds fits).canonical.rising

-- opening, records and end make the canonical stream
pub canonical_is : (d : Difference) → canonical_bytes d ≡ (opening d.from d.to (length d.cells) ++ records_bytes (map (content_of d.cells) (ranges d.cells))) ++ 101 ∷ []
unfolding canonical_bytes
canonical_is d =
    let ms = metas d.from d.to (length d.cells) in
    let rs = map (content_of d.cells) (ranges d.cells) in
    let es = records_bytes rs in
    ap (λ q. header ++ (q ++ 101 ∷ [])) (encodings_append ms rs)
    ∙ ap (λ q. header ++ q) (append_assoc (records_bytes ms) es (101 ∷ []))
    ∙ sym (append_assoc header (records_bytes ms) (es ++ 101 ∷ []))
    ∙ sym (append_assoc (header ++ records_bytes ms) es (101 ∷ []))

-- a canonical stream has the length that its names and ranges tell
pub length_canonical : (d : Difference) → length d.cells < 2 ^ 64 → length (canonical_bytes d) ≡ stream_length d.from d.to (ranges d.cells)
length_canonical d fits =
    let op = opening d.from d.to (length d.cells) in
    let rs = records_bytes (map (content_of d.cells) (ranges d.cells)) in
    ap length (canonical_is d) ∙ length-append (op ++ rs) (101 ∷ [])
    ∙ omega (arith, length-append op rs, length_opening d.from d.to (length d.cells), length_records d.cells 0 (length d.cells) (ranges d.cells) (ranges_rise d.cells fits) (omega arith))

-- the ranges of the difference that parts mean
module _ (earlier later : List ℕ) (parts : List (Run PayloadMark)) (size : ℕ) (fits : size < 2 ^ 64) where
  pub parts_rise : Rising 0 (ranges (parts_cells earlier later parts size)) size
  parts_rise =
      let lc = length_cells earlier later parts size in
      subst (λ n. Rising 0 (ranges (parts_cells earlier later parts size)) n) lc (ranges_rise (parts_cells earlier later parts size) (omega arith))

  pub parts_ranged : AllRanged parts size (ranges (parts_cells earlier later parts size))
  parts_ranged =
      let cells = parts_cells earlier later parts size in
      let lc = length_cells earlier later parts size in
      let lm = length-map cells (option_map mark_of) in
      let of = runs_states range_moves (map (option_map mark_of) cells) (ranges cells) (ranges_runs cells (omega arith)) in
      ranged_from parts size 0 size (ranges cells) parts_rise (omega arith)
      (λ p x y.
      let u : p < length (map (option_map mark_of) (parts_cells earlier later parts size)) = omega arith in
      let v : p < length (parts_cells earlier later parts size) = omega arith in
      of.paints p u ∙ get_or-map (option_map mark_of) cells p None None v ∙ ap (option_map mark_of) (cells_at earlier later parts size p y) ∙ kinds_agree earlier later (state_at payload_moves parts p))

-- the run at an index, as the code reads it
abbrev pub run_of : List (Run RangeMark) → ℕ → Run RangeMark
run_of rs i = get_or rs i (record { offset = 0; length = 0; mark = range.Zeroed })

module _ (rs : List (Run RangeMark)) (i : ℕ) (lt : i < length rs) where
  next_run : drop i rs ≡ run_of rs i ∷ drop (i + 1) rs
  next_run = drop_more rs i (record { offset = 0; length = 0; mark = range.Zeroed }) lt

  pub next_rising : (q b : ℕ) → Rising q (drop i rs) b → Rising q (run_of rs i ∷ drop (i + 1) rs) b
  next_rising q b h = subst (λ xs. Rising q xs b) next_run h

  pub next_ranged : (parts : List (Run PayloadMark)) (size : ℕ) → AllRanged parts size (drop i rs) → AllRanged parts size (run_of rs i ∷ drop (i + 1) rs)
  next_ranged parts size h = subst (AllRanged parts size) next_run h

  pub next_length : records_length (drop i rs) ≡ record_length (run_of rs i) + records_length (drop (i + 1) rs)
  next_length = ap records_length next_run

  pub next_bytes : (ds : List (Option Cell)) → records_bytes (map (content_of ds) (take (i + 1) rs)) ≡ records_bytes (map (content_of ds) (take i rs)) ++ record_bytes (content_of ds (run_of rs i))
  next_bytes ds =
      ap (λ xs. records_bytes (map (content_of ds) xs)) (take_more rs i (record { offset = 0; length = 0; mark = range.Zeroed }) lt)
      ∙ ap records_bytes (map_push (content_of ds) (take i rs) (run_of rs i))
      ∙ bytes_push (map (content_of ds) (take i rs)) (content_of ds (run_of rs i))

  -- the run lies below the size
  pub next_under : (q b : ℕ) → Rising q (drop i rs) b → run_end (run_of rs i) ≤ b
  next_under q b h = rising_le (run_end (run_of rs i)) b (drop (i + 1) rs) (next_rising q b h).2
