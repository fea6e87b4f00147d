-- The table after each step on its entries, and that it is laid out again.
use Rattle.std.proofs.Common.{◌≡◌, ℕ, suc, ◌+◌, ◌-◌, ◌^◌, ◌<◌, List, [], ◌∷◌, ◌++◌, map, length, get_or, take, drop, set, sym, refl, ap, ◌∙◌, subst, ap₂, add-one, arith}
use Rattle.std.proofs.lemmas.List.{append_assoc, map-append, length-map, length-append, length-take-le, length-drop, take-map, take_more_set, length-set, drop-map, drop-set-lt, get_or-map}
use Rattle.table.specs.Tables.{Row, Table, end_of, no_row, row_at, moved_row, united_row, append_row, take_over, drop_for, LaidOut, EndToEnd}
use Rattle.table.specs.Entries.{row_of, united_entry, moved_entry, Movable}
use Rattle.table.specs.EntryTables.{table_of}
use Rattle.table.specs.Names.{name_of}
use Rattle.table.specs.declared.entry.Entry.{Entry}
use Rattle.table.specs.declared.name.Name.{Name}
use Rattle.table.specs.declared.table.EntryTable.TheInside.{Inside}
use Rattle.std.specs.List.{refill}
use Rattle.table.proofs.Removal.{refill_is}
use Rattle.table.proofs.RowEnds.{ends_inside, ends_above, ends_drop, ends_append, ends_moved_to, ends_united}

-- moving entries moves their rows
pub rows_moved : (old new : ℕ) (es : List Entry) → map row_of (map (moved_entry old new) es) ≡ map (moved_row old new) (map row_of es)
rows_moved old new [] = refl
rows_moved old new (e ∷ es) = ap (λ q. moved_row old new (row_of e) ∷ q) (rows_moved old new es)

-- entries that lie end to end from an old place on can move
pub movable : (old new b : ℕ) (es : List Entry) → EndToEnd old (map row_of es) b → new + (b - old) < 2 ^ 64 → Movable old new es
movable old new b es h fits k d l =
    let rows = map row_of es in
    let n : k < length rows = omega (arith, length-map es row_of) in
    let row = get_or-map row_of es k d no_row l in
    let above = ends_above old b rows k n h in
    let inside = ends_inside old b rows k n h in
    let p = ap (λ (r : Row). r.place) row in
    let q = ap end_of row in
    (omega arith, omega arith)

module _ (t : Table) (h : LaidOut t) where
  -- a new last row
  pub appended : (r : Row) → length t.rows < 64 → r.place ≡ t.fill → LaidOut (append_row t r)
  appended r l at = record {
    end_to_end = ends_append 0 t.fill (t.fill + r.length) t.rows (r ∷ []) h.end_to_end (at, ap (λ p. p + r.length) at);
    few = omega (arith, length-append t.rows (r ∷ []));
  }

  -- rows i and i + 1 as one
  pub united : (i n : ℕ) (to : List ℕ) → i + 1 < length t.rows → LaidOut (take_over t i n to)
  united i n to l =
      let rs = t.rows in
      let one : Row = united_row n to (row_at t i) in
      let later = map (moved_row (end_of (row_at t (i + 1))) ((row_at t i).place + n)) (drop (i + 2) rs) in
      let ends : ℕ → ℕ → Type 0 = λ k d.
      EndToEnd 0 (take i rs ++ (one ∷ map (moved_row (end_of (row_at t k)) ((row_at t i).place + n)) (drop d rs))) ((row_at t i).place + n + (t.fill - end_of (row_at t k))) in
      let j : suc (suc i) ≡ i + 2 = omega arith in
      record {
        end_to_end = subst (λ k. ends k (i + 2)) (sym (add-one i)) (subst (ends (suc i)) j (ends_united 0 t.fill rs i n to (omega arith) h.end_to_end));
        few =
            omega (
              arith,
              h.few,
              length-append (take i rs) (one ∷ later),
              length-take-le i rs (omega arith),
              length-map (drop (i + 2) rs) (moved_row (end_of (row_at t (i + 1))) ((row_at t i).place + n)),
              length-drop (i + 2) rs,
            );
      }

  -- the table without row 0
  pub dropped : (name : List ℕ) → 0 < length t.rows → LaidOut (drop_for t name)
  dropped name l =
      let old = end_of (row_at t 0) in
      record {
        end_to_end = ends_moved_to old 0 t.fill (drop 1 t.rows) (ends_drop 0 t.fill t.rows 0 l h.end_to_end);
        few = omega (arith, h.few, length-map (drop 1 t.rows) (moved_row old 0), length-drop 1 t.rows);
      }

  -- the rows after row i lie end to end
  pub behind : (i : ℕ) → i < length t.rows → EndToEnd (end_of (row_at t i)) (drop (i + 1) t.rows) t.fill
  behind i l = rw add-one (ends_drop 0 t.fill t.rows i l h.end_to_end)

-- fields t that are seen as the table s, and its row k, which leaves
module _ (t : Inside) (s : Table) (seen : table_of t ≡ s) (h : LaidOut (table_of t)) (k : ℕ) (gone : Entry) (l : k < length s.rows) (row : row_of gone ≡ row_at s k) where
  abbrev es : List Entry
  es = t.entries.items

  abbrev old : ℕ
  old = gone.place + gone.length

  there : k < length (map row_of es)
  there = subst (λ (q : Table). k < length q.rows) (sym seen) l

  old_is : old ≡ end_of (row_at (table_of t) k)
  old_is = ap end_of (row ∙ ap (λ q. row_at q k) (sym seen))

  -- those after it move
  pub behind_moves : (new : ℕ) → new + (t.fill - old) < 2 ^ 64 → Movable old new (drop (k + 1) es)
  behind_moves new fits = movable old new t.fill (drop (k + 1) es) (rw (old_is, ← drop-map row_of (k + 1) es) (behind (table_of t) h k there)) fits

  rows_behind : (new : ℕ) → map row_of (map (moved_entry old new) (drop (k + 1) es)) ≡ map (moved_row (end_of (row_at (table_of t) k)) new) (drop (k + 1) (map row_of es))
  rows_behind new = rows_moved old new (drop (k + 1) es) ∙ ap₂ (λ p rs. map (moved_row p new) rs) old_is (sym (drop-map row_of (k + 1) es))

-- entry 0 leaves, and the others move to the start
module _ (t : Inside) (s : Table) (seen : table_of t ≡ s) (h : LaidOut (table_of t)) (first : Entry) (l : 0 < length s.rows) (row : row_of first ≡ row_at s 0) where
  pub dropped_is : (items : List Entry) (base : List ℕ) → items ≡ map (moved_entry (first.place + first.length) 0) (drop 1 t.entries.items)
      → record { base = base; rows = map row_of items; fill = t.fill - (first.place + first.length) } ≡ drop_for s base
  dropped_is items base e =
      let made : List Row → ℕ → Table = λ q f. record { base = base; rows = q; fill = f } in
      let old = old_is t s seen h 0 first l row in
      ap₂ made (ap (map row_of) e ∙ rows_behind t s seen h 0 first l row 0) (omega (arith, old)) ∙ ap (λ q. drop_for q base) seen

-- entry i becomes x, with n bytes and another to name, in the places that were lent, and entry
-- i + 1 leaves
module _ (t : Inside) (s : Table) (seen : table_of t ≡ s) (h : LaidOut (table_of t)) (i : ℕ) (later : Entry) (l : i + 1 < length s.rows) (row : row_of later ≡ row_at s (i + 1))
    (n : ℕ) (to : Name) (slots : List Entry) (e x : Entry) (value : slots ≡ t.entries.items) (made : x ≡ united_entry n to (get_or slots i e)) where
  abbrev all : List Entry
  all = t.entries.items

  abbrev d : Entry
  d = get_or slots i e

  abbrev after : List Entry
  after = refill (length all) all (set slots i x)

  abbrev end : ℕ
  end = later.place + later.length

  used : i + 1 < length all
  used = omega (arith, there t s seen h (i + 1) later l row, length-map all row_of)

  earlier_is : row_of d ≡ row_at (table_of t) i
  earlier_is = ap (λ q. row_of (get_or q i e)) value ∙ sym (get_or-map row_of all i e no_row (omega (arith, used)))

  written : after ≡ set all i x
  written = refill_is (length all) all (set slots i x) (length-set slots i x ∙ ap length value) ∙ ap (λ q. set q i x) value

  behind_set : drop (i + 1 + 1) after ≡ drop (i + 1 + 1) all
  behind_set = ap (drop (i + 1 + 1)) written ∙ drop-set-lt (i + 1 + 1) all i x (omega arith)

  pub later_moves : (take_over s i n []).fill < 2 ^ 64 → Movable end (d.place + n) (drop (i + 1 + 1) after)
  later_moves fits =
      let fill = subst (λ (q : Table). (take_over q i n []).fill < 2 ^ 64) (sym seen) fits in
      let place = ap (λ (r : Row). r.place) earlier_is in
      rw behind_set (behind_moves t s seen h (i + 1) later l row (d.place + n) (omega (arith, fill, old_is t s seen h (i + 1) later l row, place)))

  pub united_is : (items : List Entry) → items ≡ take (i + 1) after ++ map (moved_entry end (d.place + n)) (drop (i + 1 + 1) after)
      → record { base = name_of t.base; rows = map row_of items; fill = d.place + n + (t.fill - end) } ≡ take_over s i n (name_of to)
  united_is items is =
      let rs = map row_of all in
      let next : i + 1 + 1 ≡ i + 2 = omega arith in
      let one : row_of x ≡ united_row n (name_of to) (row_at (table_of t) i) = ap row_of made ∙ ap (united_row n (name_of to)) earlier_is in
      let front : map row_of (take (i + 1) after) ≡ take i rs ++ row_of x ∷ [] =
      ap (map row_of) (ap (take (i + 1)) written ∙ take_more_set all i x (omega (arith, used))) ∙ map-append row_of (take i all) (x ∷ []) ∙ ap (λ q. q ++ row_of x ∷ []) (sym (take-map row_of i all)) in
      let moved = ap (λ q. map row_of (map (moved_entry end (d.place + n)) q)) behind_set ∙ rows_behind t s seen h (i + 1) later l row (d.place + n) in
      let rows = ap (map row_of) is ∙ map-append row_of (take (i + 1) after) _ ∙ ap₂ ◌++◌ front moved ∙ append_assoc (take i rs) (row_of x ∷ []) _ in
      rw (← seen, rows, one, old_is t s seen h (i + 1) later l row, ap (λ (r : Row). r.place) earlier_is, next) refl
