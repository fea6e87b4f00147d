-- What put, join and settle make of the differences on a shelf: one more at the end, two neighbours
-- as their join, all but the first.
use Rattle.std.proofs.Common.{◌≡◌, ℕ, suc, ◌+◌, List, [], ◌∷◌, ◌++◌, length, drop, sym, refl, ap, ◌∙◌, subst, ap₂, arith}
use Rattle.std.proofs.lemmas.List.{append_assoc, append-nil, length-append}
use Rattle.stream.specs.Difference.{Difference, canonical_bytes}
use Rattle.table.specs.Tables.{Table, end_of, row_at, fill_after, new_row, add_row, unite_rows, drop_row}
use Rattle.shelf.specs.Entries.{bytes_with}
use Rattle.std.proofs.lemmas.Grind.{flat_map-append}
use Rattle.shelf.proofs.Splices.{spliced}
use Rattle.shelf.proofs.ShelfDifferences.{long, all_bytes, RowFor, Stands, rows_append, two_behind, rows_left, rows_united}

-- one more
module _ (ds : List Difference) (d : Difference) (t : Table) (bytes : List ℕ) (h : Stands ds t bytes) where
  pushed_bytes : all_bytes (ds ++ (d ∷ [])) ≡ all_bytes ds ++ canonical_bytes d
  pushed_bytes = flat_map-append canonical_bytes ds (d ∷ []) ∙ ap (λ x. all_bytes ds ++ x) (append-nil (canonical_bytes d))

  pub stands_put : Stands (ds ++ (d ∷ [])) (add_row t (long d) d.from d.to) (bytes_with t.fill bytes t.fill t.fill (canonical_bytes d))
  stands_put =
      let a = all_bytes ds in
      let c = canonical_bytes d in
      let more = drop (fill_after t.fill t.fill t.fill (length c)) bytes in
      let row : RowFor t.fill d (new_row t (long d) d.from d.to) = record { begins = refl; long_as = refl; from = refl; to = refl } in
      record {
        rows = rows_append 0 t.fill ds (d ∷ []) t.rows (new_row t (long d) d.from d.to ∷ []) (omega (arith, h.fill)) h.rows (row, tt);
        fill = omega (arith, h.fill, ap length pushed_bytes, length-append a c);
        tail = more;
        is = spliced bytes a [] [] h.tail t.fill t.fill t.fill h.is (sym h.fill) (omega arith) (omega arith) c
            ∙ sym (append_assoc a c more) ∙ ap (λ x. x ++ more) (sym pushed_bytes);
      }

-- two neighbours as one
module _ (pre : List Difference) (d e : Difference) (bs : List Difference) (t : Table) (bytes : List ℕ) (h : Stands (pre ++ (d ∷ e ∷ bs)) t bytes) (i : ℕ) (count : length pre ≡ i) where
  abbrev start : ℕ
  start = length (all_bytes pre)

  abbrev end : ℕ
  end = start + long d + long e

  two_bytes : all_bytes (pre ++ (d ∷ e ∷ bs)) ≡ all_bytes pre ++ ((canonical_bytes d ++ canonical_bytes e) ++ all_bytes bs)
  two_bytes = flat_map-append canonical_bytes pre (d ∷ e ∷ bs) ∙ ap (λ x. all_bytes pre ++ x) (sym (append_assoc (canonical_bytes d) (canonical_bytes e) (all_bytes bs)))

  two_fill : t.fill ≡ end + length (all_bytes bs)
  two_fill =
      h.fill
      ∙ omega (arith, ap length two_bytes, length-append (all_bytes pre) ((canonical_bytes d ++ canonical_bytes e) ++ all_bytes bs), length-append (canonical_bytes d ++ canonical_bytes e) (all_bytes bs), length-append (canonical_bytes d) (canonical_bytes e))

  two_here : (row_at t i).place ≡ start
  two_here = subst (λ k. (row_at t k).place ≡ start) count (two_behind 0 start pre d e bs t.rows (omega arith) h.rows).0

  two_end : end_of (row_at t (i + 1)) ≡ end
  two_end =
      let next : suc (length pre) ≡ i + 1 = omega arith in
      subst (λ k. end_of (row_at t k) ≡ end) next (two_behind 0 start pre d e bs t.rows (omega arith) h.rows).1

  one_bytes : (j : Difference) → all_bytes (pre ++ (j ∷ bs)) ≡ all_bytes pre ++ (canonical_bytes j ++ all_bytes bs)
  one_bytes j = flat_map-append canonical_bytes pre (j ∷ bs)

  pub stands_join : (j : Difference) → j.from ≡ d.from → j.to ≡ e.to
      → Stands (pre ++ (j ∷ bs)) (unite_rows t i (long j)) (bytes_with t.fill bytes (row_at t i).place (end_of (row_at t (i + 1))) (canonical_bytes j))
  stands_join j from to =
      let a = all_bytes pre in
      let b = canonical_bytes d ++ canonical_bytes e in
      let c = all_bytes bs in
      let more = drop (fill_after t.fill start end (long j)) bytes in
      let next : i + 1 ≡ suc (length pre) = omega arith in
      let behind : i + 2 ≡ suc (suc (length pre)) = omega arith in
      let parts : bytes ≡ a ++ (b ++ (c ++ h.tail)) =
      h.is ∙ ap (λ x. x ++ h.tail) two_bytes ∙ append_assoc a (b ++ c) h.tail ∙ ap (λ x. a ++ x) (append_assoc b c h.tail) in
      record {
        rows = rw (next, behind, ← count) (rows_united 0 pre d e j bs t.rows from to h.rows);
        fill = omega (arith, two_here, two_end, two_fill, ap length (one_bytes j), length-append a (canonical_bytes j ++ c), length-append (canonical_bytes j) c);
        tail = more;
        is = ap₂ (λ x y. bytes_with t.fill bytes x y (canonical_bytes j)) two_here two_end
            ∙ spliced bytes a b c h.tail t.fill start end parts refl (omega (arith, length-append (canonical_bytes d) (canonical_bytes e))) (sym two_fill) (canonical_bytes j)
            ∙ ap (λ x. a ++ x) (sym (append_assoc (canonical_bytes j) c more)) ∙ sym (append_assoc a (canonical_bytes j ++ c) more) ∙ ap (λ x. x ++ more) (sym (one_bytes j));
      }

-- all but the first
module _ (d : Difference) (bs : List Difference) (t : Table) (bytes : List ℕ) (h : Stands (d ∷ bs) t bytes) where
  pub stands_settle : Stands bs (drop_row t) (bytes_with t.fill bytes 0 (end_of (row_at t 0)) [])
  stands_settle =
      let c = canonical_bytes d in
      let b = all_bytes bs in
      let left = rows_left d bs t.rows h.rows in
      let end : 0 + length c ≡ end_of (row_at t 0) = omega (arith, left.0) in
      let all : end_of (row_at t 0) + length b ≡ t.fill = omega (arith, h.fill, length-append c b) in
      record {
        rows = left.1;
        fill = omega arith;
        tail = drop (fill_after t.fill 0 (end_of (row_at t 0)) 0) bytes;
        is = spliced bytes [] c b h.tail t.fill 0 (end_of (row_at t 0)) (h.is ∙ append_assoc c b h.tail) refl end all [];
      }
