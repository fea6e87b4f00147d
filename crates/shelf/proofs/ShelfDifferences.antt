-- Differences that stand on a shelf: the rows and the bytes are those of their canonical streams,
-- end to end. Of a row this says where its stream lies and what its names are, and no more.
use Rattle.std.proofs.Common.{◌≡◌, ℕ, zero, suc, ◌+◌, ◌-◌, ◌<◌, ◌≤◌, List, [], ◌∷◌, ◌++◌, map, length, get_or, take, drop, sym, refl, ap, ◌∙◌, subst, ap₂, arith}
use Rattle.std.proofs.lemmas.List.{append_assoc, length-append, length-take, take_at, drop_at, get_or-map}
use Rattle.std.specs.List.{flat_map}
use Rattle.stream.specs.Difference.{Difference, canonical_bytes}
use Rattle.table.specs.Tables.{Row, Table, end_of, no_row, row_at, moved_row, united_row}
use Rattle.shelf.specs.Entries.{slice, shelf_streams}
use Rattle.overlay.proofs.OverlayLaws.{cons}
use Rattle.std.proofs.Math.Seq.{take-append-add}

-- how long a difference's stream is, and the bytes of differences
abbrev pub long : Difference → ℕ
long d = length (canonical_bytes d)

abbrev pub all_bytes : List Difference → List ℕ
all_bytes ds = flat_map canonical_bytes ds

-- the row of a difference whose stream begins at a place, and the rows of differences from a place
-- on
pub record RowFor (place : ℕ) (d : Difference) (r : Row) : Type 0 where
  pub begins : r.place ≡ place
  pub long_as : r.length ≡ long d
  pub from : r.from ≡ d.from
  pub to : r.to ≡ d.to

abbrev pub RowsFor : ℕ → List Difference → List Row → Type 0
RowsFor place [] [] = Unit {0}
RowsFor place (d ∷ ds) (r ∷ rs) = RowFor place d r × RowsFor (place + long d) ds rs
RowsFor place ds rs = ⊥

-- a table and bytes that are those of differences
pub record Stands (ds : List Difference) (t : Table) (bytes : List ℕ) : Type 0 where
  pub rows : RowsFor 0 ds t.rows
  pub fill : t.fill ≡ length (all_bytes ds)
  pub tail : List ℕ
  pub is : bytes ≡ all_bytes ds ++ tail

length_rows : (place : ℕ) (ds : List Difference) (rs : List Row) → RowsFor place ds rs → length rs ≡ length ds
length_rows place [] [] h = refl
length_rows place (d ∷ ds) (r ∷ rs) h = ap suc (length_rows (place + long d) ds rs h.1)
length_rows place ds rs h = absurd h

pub rows_append : (place end : ℕ) (ds es : List Difference) (rs ss : List Row) → end ≡ place + length (all_bytes ds) → RowsFor place ds rs → RowsFor end es ss → RowsFor place (ds ++ es) (rs ++ ss)
rows_append place end [] es [] ss e h k = let z : end ≡ place = omega arith in subst (λ p. RowsFor p es ss) z k
rows_append place end (d ∷ ds) es (r ∷ rs) ss e h k =
    (h.0, rows_append (place + long d) end ds es rs ss (omega (arith, length-append (canonical_bytes d) (all_bytes ds))) h.1 k)
rows_append place end ds es rs ss e h k = absurd h

rows_moved : (old new a b : ℕ) (ds : List Difference) (rs : List Row) → old ≤ a → b ≡ new + (a - old) → RowsFor a ds rs → RowsFor b ds (map (moved_row old new) rs)
rows_moved old new a b [] [] l e h = tt
rows_moved old new a b (d ∷ ds) (r ∷ rs) l e h =
    let at = h.0.begins in (
      record { begins = omega arith; long_as = h.0.long_as; from = h.0.from; to = h.0.to },
      rows_moved old new (a + long d) (b + long d) ds rs (omega arith) (omega arith) h.1,
    )
rows_moved old new a b ds rs l e h = absurd h

-- the names of row i
names_at : (place : ℕ) (ds : List Difference) (rs : List Row) (i : ℕ) (d : Difference) → i < length ds → RowsFor place ds rs
    → ((get_or rs i no_row).from ≡ (get_or ds i d).from) × ((get_or rs i no_row).to ≡ (get_or ds i d).to)
names_at place (e ∷ ds) (r ∷ rs) zero d l h = (h.0.from, h.0.to)
names_at place (e ∷ ds) (r ∷ rs) (suc i) d l h = names_at (place + long e) ds rs i d (omega arith) h.1
names_at place (e ∷ ds) [] i d l h = absurd h
names_at place [] rs i d l h = absurd (omega arith)

-- where two neighbours begin and end
pub two_behind : (place start : ℕ) (pre : List Difference) (d e : Difference) (bs : List Difference) (rs : List Row) → start ≡ place + length (all_bytes pre) → RowsFor place (pre ++ (d ∷ e ∷ bs)) rs
    → ((get_or rs (length pre) no_row).place ≡ start) × (end_of (get_or rs (suc (length pre)) no_row) ≡ start + long d + long e)
two_behind place start [] d e bs (r ∷ s ∷ rs) q h =
    let at = h.0.begins in let next = h.1.0.begins in let n = h.1.0.long_as in (omega arith, omega arith)
two_behind place start [] d e bs (r ∷ []) q h = absurd h.1
two_behind place start (p ∷ pre) d e bs (r ∷ rs) q h = two_behind (place + long p) start pre d e bs rs (omega (arith, length-append (canonical_bytes p) (all_bytes pre))) h.1
two_behind place start pre d e bs rs q h = absurd h

-- where the first row ends, and the others moved to the start
pub rows_left : (d : Difference) (bs : List Difference) (rs : List Row) → RowsFor 0 (d ∷ bs) rs
    → (end_of (get_or rs 0 no_row) ≡ long d) × RowsFor 0 bs (map (moved_row (end_of (get_or rs 0 no_row)) 0) (drop 1 rs))
rows_left d bs [] h = absurd h
rows_left d bs (r ∷ rs) h =
    let at = h.0.begins in let n = h.0.long_as in (omega arith, rows_moved (end_of r) 0 (0 + long d) 0 bs rs (omega arith) (omega arith) h.1)

-- two neighbours as the row of their join
pub rows_united : (place : ℕ) (pre : List Difference) (d e j : Difference) (bs : List Difference) (rs : List Row) → j.from ≡ d.from → j.to ≡ e.to → RowsFor place (pre ++ (d ∷ e ∷ bs)) rs
    → RowsFor place (pre ++ (j ∷ bs))
    (take (length pre) rs
    ++ (united_row (long j) (get_or rs (suc (length pre)) no_row).to (get_or rs (length pre) no_row)
    ∷ map (moved_row (end_of (get_or rs (suc (length pre)) no_row)) ((get_or rs (length pre) no_row).place + long j)) (drop (suc (suc (length pre))) rs)))
rows_united place [] d e j bs (r ∷ []) f t h = absurd h.1
rows_united place [] d e j bs (r ∷ s ∷ rs) f t h =
    let at = h.0.begins in let next = h.1.0.begins in let n = h.1.0.long_as in (
      record { begins = at; long_as = refl; from = h.0.from ∙ sym f; to = h.1.0.to ∙ sym t },
      rows_moved (end_of s) (r.place + long j) (place + long d + long e) (place + long j) bs rs (omega arith) (omega arith) h.1.1,
    )
rows_united place (p ∷ pre) d e j bs (r ∷ rs) f t h = (h.0, rows_united (place + long p) pre d e j bs rs f t h.1)
rows_united place pre d e j bs rs f t h = absurd h

-- the streams on the shelf
slice_is : (pre c more : List ℕ) (r : Row) → r.place ≡ length pre → r.length ≡ length c → slice (pre ++ (c ++ more)) r ≡ c
slice_is pre c more r e f = ap (take r.length) (drop_at pre (c ++ more) r.place (sym e)) ∙ take_at c more r.length (sym f)

slices : (pre tail : List ℕ) (ds : List Difference) (rs : List Row) → RowsFor (length pre) ds rs → map (slice (pre ++ (all_bytes ds ++ tail))) rs ≡ map canonical_bytes ds
slices pre tail [] [] h = refl
slices pre tail (d ∷ ds) (r ∷ rs) h =
    let c = canonical_bytes d in
    let one : pre ++ ((c ++ all_bytes ds) ++ tail) ≡ pre ++ (c ++ (all_bytes ds ++ tail)) = ap (λ x. pre ++ x) (append_assoc c (all_bytes ds) tail) in
    let two = one ∙ sym (append_assoc pre c (all_bytes ds ++ tail)) in
    cons (ap (λ x. slice x r) one ∙ slice_is pre c (all_bytes ds ++ tail) r h.0.begins h.0.long_as)
    (ap (λ x. map (slice x) rs) two ∙ slices (pre ++ c) tail ds rs (subst (λ p. RowsFor p ds rs) (sym (length-append pre c)) h.1))
slices pre tail ds rs h = absurd h

module _ (ds : List Difference) (t : Table) (bytes : List ℕ) (h : Stands ds t bytes) where
  pub stands_streams : shelf_streams t bytes ≡ map canonical_bytes ds
  stands_streams = ap (λ x. shelf_streams t x) h.is ∙ slices [] h.tail ds t.rows h.rows

  pub stands_count : length t.rows ≡ length ds
  stands_count = length_rows 0 ds t.rows h.rows

  -- the bytes handed in, if they reach the fill; and with bytes beyond them
  pub stands_handed : (k : ℕ) → t.fill ≤ length (take k bytes) → Stands ds t (take k bytes)
  stands_handed k l =
      let a = all_bytes ds in
      let z : k ≡ length a + (k - length a) = omega (arith, h.fill, length-take k bytes) in
      record { rows = h.rows; fill = h.fill; tail = take (k - length a) h.tail; is = ap₂ take z h.is ∙ take-append-add a h.tail (k - length a) }

  pub stands_beyond : (more : List ℕ) → Stands ds t (bytes ++ more)
  stands_beyond more = record { rows = h.rows; fill = h.fill; tail = h.tail ++ more; is = ap (λ x. x ++ more) h.is ∙ append_assoc (all_bytes ds) h.tail more }

  -- the stream of row i, and its names
  module _ (i : ℕ) (d : Difference) (l : i < length ds) where
    pub stands_slice : slice bytes (row_at t i) ≡ canonical_bytes (get_or ds i d)
    stands_slice =
        sym (get_or-map (slice bytes) t.rows i no_row [] (omega (arith, stands_count)))
        ∙ ap (λ x. get_or x i []) stands_streams ∙ get_or-map canonical_bytes ds i d [] l

    pub stands_names : ((row_at t i).from ≡ (get_or ds i d).from) × ((row_at t i).to ≡ (get_or ds i d).to)
    stands_names = names_at 0 ds t.rows i d l h.rows
