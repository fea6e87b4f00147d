-- The bytes that parts of two streams name, position by position. Assumes nothing.
use Rattle.std.proofs.Common.{◌≡◌, ℕ, ◌+◌, ◌-◌, ◌%◌, ◌^◌, ◌<◌, ◌≤◌, ltb, List, ◌++◌, map, length, get_or, take, drop, Some, None, Option, sym, ap, ◌∙◌, subst, ⊎_elim, add-zero, mod-eq_of_lt, arith, length-drop, length-take, take-add}
use Rattle.std.proofs.lemmas.List.{map-append, length-map, get_or-map, get_or-take, get_or-drop, ext_get_or, drop-drop}
use Rattle.std.proofs.lemmas.List.FromFn.{length-map-range_with_len, get_or-map-range_with_len}
use Rattle.std.proofs.lemmas.Bool.{cases_lt, cond-true, cond-false, lt-ltb, le-ltb}
use Rattle.std.specs.Option.{option_map}
use Rattle.overlay.specs.declared.runs.Run.{Run}
use Rattle.overlay.specs.declared.runs.Piece.{Piece}
use Rattle.overlay.specs.declared.payloads.Side.{Side}
use Rattle.overlay.specs.declared.payloads.Side.TheVariants.{Earlier, Later}
use Rattle.overlay.specs.declared.ranges.RangeMark.{RangeMark}
use Rattle.overlay.specs.declared.ranges.RangeMark.TheVariants as range
use Rattle.overlay.specs.declared.payloads.PayloadMark.{PayloadMark}
use Rattle.overlay.specs.declared.payloads.PayloadMark.TheVariants.{Written}
use Rattle.overlay.specs.Marks.{payload_moves, place_moves, range_of}
use Rattle.overlay.specs.Payloads.{stream_of}
use Rattle.overlay.specs.Runs.{run_end, state_at, run_states}
use Rattle.overlay.specs.Walks.{moved_state, Left, Even}
use Rattle.stream.specs.Meaning.{Cell}
use Rattle.stream.specs.Parts.{cell_of, parts_cells}
use Rattle.stream.specs.Difference.{byte_over, payload_at}
use Rattle.stream.proofs.FoundRanges.{length_cells}
use Rattle.join.specs.Lies.{ByteThere, AllPlaced}
use Rattle.join.specs.Parts.{Ranged, PayloadThere, named_bytes}

-- the payload of some positions and of those after them
payload_on : (ds : List (Option Cell)) (o a b : ℕ) → payload_at ds o (a + b) ≡ payload_at ds o a ++ payload_at ds (o + a) b
payload_on ds o a b =
    ap (map (byte_over 0)) (take-add a b (drop o ds)) ∙ map-append (byte_over 0) (take a (drop o ds)) (take b (drop a (drop o ds)))
    ∙ ap (λ q. payload_at ds o a ++ map (byte_over 0) (take b q)) (drop-drop a o ds)

pub payload_to : (ds : List (Option Cell)) (o pos stop : ℕ) → o ≤ pos → pos ≤ stop → payload_at ds o (pos - o) ++ payload_at ds pos (stop - pos) ≡ payload_at ds o (stop - o)
payload_to ds o pos stop a b =
    let d : o + (pos - o) ≡ pos = omega arith in
    let e : pos - o + (stop - pos) ≡ stop - o = omega arith in
    sym (ap (payload_at ds o) (sym e) ∙ payload_on ds o (pos - o) (stop - pos) ∙ ap (λ q. payload_at ds o (pos - o) ++ payload_at ds q (stop - pos)) d)

pub length_payload : (ds : List (Option Cell)) (o n : ℕ) → o + n ≤ length ds → length (payload_at ds o n) ≡ n
length_payload ds o n h = simp (length-map, length-take, length-drop) (omega arith)

module _ (earlier later : List ℕ) (parts : List (Run PayloadMark)) (size : ℕ) where
  pub cells_at : (p : ℕ) → p < size → get_or (parts_cells earlier later parts size) p None ≡ option_map (cell_of earlier later) (state_at payload_moves parts p)
  cells_at p h =
      let l : p < length (run_states payload_moves parts size) = omega (arith, length-map-range_with_len (state_at payload_moves parts) 0 size) in
      get_or-map (option_map (cell_of earlier later)) (run_states payload_moves parts size) p None None l
      ∙ ap (option_map (cell_of earlier later)) (get_or-map-range_with_len (state_at payload_moves parts) 0 size p p None h (omega arith))

  -- positions that name the bytes of a stream one after another have these as payload
  pub payload_held : (side : Side) (place pos n : ℕ) → pos + n ≤ size → place + n ≤ length (stream_of earlier later side)
      → ((k : ℕ) → k < n → state_at payload_moves parts (pos + k) ≡ Some (Written side (place + k)))
      → payload_at (parts_cells earlier later parts size) pos n ≡ take n (drop place (stream_of earlier later side))
  payload_held side place pos n under within each =
      let cells = parts_cells earlier later parts size in
      let s = stream_of earlier later side in
      let lc = length_cells in
      let la : length (payload_at cells pos n) ≡ n = length_payload cells pos n (omega arith) in
      let lb : length (take n (drop place s)) ≡ n = simp (length-take, length-drop) (omega arith) in
      ext_get_or 0 (payload_at cells pos n) (take n (drop place s)) (la ∙ sym lb)
      (λ i h.
      let k : i < n = omega arith in
      let l : i < length (take n (drop pos cells)) = simp (length-take, length-drop) (omega arith) in
      let u : pos + i < size = omega arith in
      let p : get_or (payload_at cells pos n) i 0 ≡ get_or s (place + i) 0 =
      get_or-map (byte_over 0) (take n (drop pos cells)) i None 0 l
      ∙ ap (byte_over 0) (get_or-take n (drop pos cells) i None k ∙ get_or-drop pos cells i None ∙ cells_at (pos + i) u ∙ ap (option_map (cell_of earlier later)) (each i k)) in
      p ∙ sym (get_or-take n (drop place s) i 0 k ∙ get_or-drop place s i 0))

-- a place that does not pass 2^64 moves on plainly
pub moves_plain : (place k : ℕ) → place + k < 2 ^ 64 → place_moves place k ≡ place + k
moves_plain place k h =
    cond-true (ltb place (2 ^ 64)) ((place + k) % 2 ^ 64) place (lt-ltb place (2 ^ 64) (omega arith)) ∙ mod-eq_of_lt h

moves_none : (place : ℕ) → place_moves place 0 ≡ place
moves_none place =
    ⊎_elim (λ a. moves_plain place 0 (omega arith) ∙ add-zero place) (λ b. cond-false (ltb place (2 ^ 64)) ((place + 0) % 2 ^ 64) place (le-ltb place (2 ^ 64) b)) (cases_lt place (2 ^ 64))

-- the bytes from a place on lie in a stream in which each of their places is
held_whole : (place n l : ℕ) → 0 < n → l < 2 ^ 64 → ((k : ℕ) → k < n → place_moves place k < l) → place + n ≤ l
held_whole place n l some fits each =
    let z : place < l = subst (λ q. q < l) (moves_none place) (each 0 some) in
    ⊎_elim
    (λ a.
    let k : l - place < n = omega arith in
    let e : place_moves place (l - place) ≡ l = moves_plain place (l - place) (omega arith) ∙ omega arith in
    absurd (omega (arith, e, each (l - place) k)))
    (λ b. b)
    (cases_lt l (place + n))

module _ (earlier later : List ℕ) (parts : List (Run PayloadMark)) (size : ℕ) (placed : AllPlaced earlier later parts size) (short : length earlier < 2 ^ 64) (brief : length later < 2 ^ 64) where
  -- a state of a written position: its bytes lie in a stream, and are the payload
  pub record Found (s : Option PayloadMark) (pos n : ℕ) : Type 0 where
    pub held : PayloadThere earlier later s n
    pub is : payload_at (parts_cells earlier later parts size) pos n ≡ named_bytes earlier later s n

  fits : (side : Side) → length (stream_of earlier later side) < 2 ^ 64
  fits Earlier = short
  fits Later = brief

  found : (s : Option PayloadMark) (pos n : ℕ) → 0 < n → pos + n ≤ size → ((p : ℕ) → pos ≤ p → p < pos + n → state_at payload_moves parts p ≡ moved_state payload_moves s (p - pos))
      → option_map range_of (state_at payload_moves parts pos) ≡ Some range.Written → Found s pos n
  found (Some (Written side place)) pos n some under same w =
      let s = stream_of earlier later side in
      let on : (k : ℕ) → k < n → state_at payload_moves parts (pos + k) ≡ Some (Written side (place_moves place k)) = λ k h.
      let a : pos ≤ pos + k = omega arith in
      let b : pos + k < pos + n = omega arith in
      let d : pos + k - pos ≡ k = omega arith in
      same (pos + k) a b ∙ ap (λ j. Some (Written side (place_moves place j))) d in
      let each : (k : ℕ) → k < n → place_moves place k < length s = λ k h.
      let u : pos + k < size = omega arith in
      subst (ByteThere earlier later) (on k h) (placed (pos + k) u) in
      let l = held_whole place n (length s) some (fits side) each in
      let f = fits side in
      record {
        held = l;
        is = payload_held earlier later parts size side place pos n under l
            (λ k h. let u : place + k < 2 ^ 64 = omega arith in on k h ∙ ap (λ q. Some (Written side q)) (moves_plain place k u));
      }
  found s pos n some under same w = let e = sym (ap (option_map range_of) (same pos (omega arith) (omega arith))) ∙ w in cc

  -- what the parts say from a position of a written range on
  pub piece_found : (r : Run RangeMark) (pos stop : ℕ) (piece : Piece PayloadMark) → Even payload_moves (state_at payload_moves parts) pos size piece → Ranged parts size r → r.mark ≡ range.Written
      → r.offset ≤ pos → pos < stop → stop ≤ piece.stop → stop ≤ run_end r → Found piece.state pos (stop - pos)
  piece_found r pos stop piece even alike kind a b d e =
      let some : 0 < stop - pos = omega arith in
      let u : pos + (stop - pos) ≤ size = omega (arith, even.under) in
      let in-run : pos < run_end r = omega arith in
      found piece.state pos (stop - pos) some u
      (λ p x y. let z : p < piece.stop = omega arith in even.same p x z)
      (alike.alike pos a in-run ∙ ap Some kind)

-- what the parts that are left say from a position on, all parts say
pub even_left : (parts left : List (Run PayloadMark)) (size n pos : ℕ) (piece : Piece PayloadMark) → Left payload_moves parts pos left → n ≡ size
    → Even payload_moves (state_at payload_moves left) pos n piece → Even payload_moves (state_at payload_moves parts) pos size piece
even_left parts left size n pos piece h e even = record { more = even.more; under = omega (arith, even.under); same = λ p l m. sym (h.same p l) ∙ even.same p l m }
