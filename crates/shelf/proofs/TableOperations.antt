-- The laws of the operations on a table.
use Rattle.std.proofs.Common.{◌≡◌, ℕ, zero, suc, ◌+◌, ◌-◌, ◌<◌, List, [], ◌∷◌, ◌++◌, map, length, get_or, take, drop, refl, ap, ◌∙◌, add-one, arith}
use Rattle.std.proofs.lemmas.List.{length-append, length-map, length-take, length-drop, get_or_at, get_or_append_left, get_or-append_right, get_or-take, get_or-drop, get_or-map}
use Rattle.table.specs.Tables.{Row, Table, end_of, no_row, row_at, last_name, moved_row, united_row, new_row, unite_rows, drop_row, Chained}
use Rattle.shelf.specs.TableLaws.{LawsOfTables}
use Rattle.table.proofs.RowEnds.{ends_inside, ends_next}
use Rattle.table.proofs.TableSteps.{appended, united, dropped}

-- names that meet
chained_append : (name : List ℕ) (rs ss : List Row) → Chained name rs → Chained (last_name name rs) ss → Chained name (rs ++ ss)
chained_append name [] ss h k = k
chained_append name (r ∷ rs) ss h k = (h.0, chained_append r.to rs ss h.1 k)

chained_moved : (old new : ℕ) (name : List ℕ) (rs : List Row) → Chained name rs → Chained name (map (moved_row old new) rs)
chained_moved old new name [] h = tt
chained_moved old new name (r ∷ rs) h = (h.0, chained_moved old new r.to rs h.1)

chained_next : (name : List ℕ) (rs : List Row) (i : ℕ) → suc i < length rs → Chained name rs → (get_or rs (suc i) no_row).from ≡ (get_or rs i no_row).to
chained_next name (r ∷ s ∷ rs) zero l h = h.1.0
chained_next name (r ∷ s ∷ rs) (suc i) l h = chained_next r.to (s ∷ rs) i (omega arith) h.1
chained_next name rs i l h = absurd (omega arith)

chained_united : (name : List ℕ) (rs : List Row) (i n old new : ℕ) → suc i < length rs → Chained name rs
    → Chained name (take i rs ++ (united_row n (get_or rs (suc i) no_row).to (get_or rs i no_row) ∷ map (moved_row old new) (drop (suc (suc i)) rs)))
chained_united name (r ∷ s ∷ rs) zero n old new l h = (h.0, chained_moved old new s.to rs h.1.1)
chained_united name (r ∷ s ∷ rs) (suc i) n old new l h = (h.0, chained_united r.to (s ∷ rs) i n old new (omega arith) h.1)
chained_united name rs i n old new l h = absurd (omega arith)

chained_dropped : (name : List ℕ) (rs : List Row) (old : ℕ) → 0 < length rs → Chained name rs → Chained (get_or rs 0 no_row).to (map (moved_row old 0) (drop 1 rs))
chained_dropped name [] old l h = absurd (omega arith)
chained_dropped name (r ∷ rs) old l h = chained_moved old 0 r.to rs h.1

module _ (t : Table) (i n : ℕ) (l : i + 1 < length t.rows) where
  abbrev moved : Row → Row
  moved = moved_row (end_of (row_at t (i + 1))) ((row_at t i).place + n)

  abbrev one : Row
  one = united_row n (row_at t (i + 1)).to (row_at t i)

  united_count : suc (length (unite_rows t i n).rows) ≡ length t.rows
  united_count =
      omega (arith, length-append (take i t.rows) (one ∷ map moved (drop (i + 2) t.rows)), length-take i t.rows, length-map (drop (i + 2) t.rows) moved, length-drop (i + 2) t.rows)

  united_before : (k : ℕ) → k < i → row_at (unite_rows t i n) k ≡ row_at t k
  united_before k b = get_or_append_left (take i t.rows) _ no_row k (omega (arith, length-take i t.rows)) ∙ get_or-take i t.rows k no_row b

  united_here : row_at (unite_rows t i n) i ≡ one
  united_here = get_or_at (take i t.rows) _ _ no_row i (length-take i t.rows ∙ omega arith)

  united_after : (k : ℕ) → i < k → k + 1 < length t.rows → row_at (unite_rows t i n) k ≡ moved (row_at t (k + 1))
  united_after k b m =
      let step : k - i ≡ suc (k - suc i) = omega arith in
      let place : i + 2 + (k - suc i) ≡ k + 1 = omega arith in
      get_or-append_right (take i t.rows) (one ∷ map moved (drop (i + 2) t.rows)) i k no_row (length-take i t.rows ∙ omega arith) (omega arith)
      ∙ ap (λ j. get_or (one ∷ map moved (drop (i + 2) t.rows)) j no_row) step
      ∙ get_or-map moved (drop (i + 2) t.rows) (k - suc i) no_row no_row (omega (arith, length-drop (i + 2) t.rows))
      ∙ ap moved (get_or-drop (i + 2) t.rows (k - suc i) no_row ∙ ap (λ j. get_or t.rows j no_row) place)

-- the first row leaves
module _ (t : Table) where
  abbrev at_front : Row → Row
  at_front = moved_row (end_of (row_at t 0)) 0

  dropped_count : 0 < length t.rows → suc (length (drop_row t).rows) ≡ length t.rows
  dropped_count l = omega (arith, length-map (drop 1 t.rows) at_front, length-drop 1 t.rows)

  dropped_after : (k : ℕ) → k + 1 < length t.rows → row_at (drop_row t) k ≡ at_front (row_at t (k + 1))
  dropped_after k l =
      let next : 1 + k ≡ k + 1 = omega arith in
      get_or-map at_front (drop 1 t.rows) k no_row no_row (omega (arith, length-drop 1 t.rows))
      ∙ ap at_front (get_or-drop 1 t.rows k no_row ∙ ap (λ j. get_or t.rows j no_row) next)

pub laws_of_tables : LawsOfTables
laws_of_tables = record {
  limit = refl;
  empty = λ name. record { end_to_end = refl; few = omega arith };
  added = λ t n from to h l. appended t h (new_row t n from to) l refl;
  united = λ t i n h l. united t h i n _ l;
  dropped = λ t h l. dropped t h _ l;
  inside = λ t i h l. ends_inside 0 t.fill t.rows i l h.end_to_end;
  next = λ t i h l. rw add-one (ends_next 0 t.fill t.rows i (omega arith) h.end_to_end);
  added_leads = λ t n from to h e. chained_append t.base t.rows (new_row t n from to ∷ []) h (e, tt);
  united_leads = λ t i n h l.
      let behind : i + 2 ≡ suc (suc i) = omega arith in
      rw (behind, add-one i) (chained_united t.base t.rows i n _ _ (omega arith) h);
  dropped_leads = λ t h l. chained_dropped t.base t.rows _ l h;
  names_meet = λ t i h l. rw add-one (chained_next t.base t.rows i (omega arith) h);
  united_count = united_count;
  dropped_count = dropped_count;
  united_before = λ t i n k l b. united_before t i n l k b;
  united_here = united_here;
  united_after = λ t i n k b m. united_after t i n (omega arith) k b m;
  dropped_after = dropped_after;
}
