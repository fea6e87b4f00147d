-- A settle that was done keeps what holds between two calls, and so does one that stopped halfway,
-- whatever the image is then.
use Rattle.std.proofs.Common.{◌≡◌, ℕ, List, [], ◌∷◌, ◌++◌, map, take, drop, sym, ap, ◌∙◌, subst, arith}
use Rattle.std.proofs.lemmas.List.{append_assoc, append-nil, take-append-drop}
use Rattle.std.specs.List.{flat_map}
use Rattle.stream.specs.Difference.{Difference, image_after, Expressible}
use Rattle.table.specs.Tables.{Table, end_of, row_at, drop_row}
use Rattle.shelf.specs.Entries.{bytes_with}
use Rattle.shelf.specs.Ledger.{Stretch, streams_of, Ledger, settle_first}
use Rattle.shelf.specs.Stretches.{applied_all, stretch_join}
use Rattle.stream.proofs.ReadRecords.{ok_same}
use Rattle.shelf.proofs.ShelfDifferences.{Stands, stands_count, stands_handed, stands_beyond}
use Rattle.shelf.proofs.ShelfChanges.{stands_settle}
use Rattle.shelf.proofs.CallPlans.{SettlePlanned}
use Rattle.shelf.proofs.EntryReading.{entry_reads}
use Rattle.shelf.proofs.SeriesInvariant.{Kept}

module _ (first : List ℕ) (l : Ledger) (acc : List (List ℕ)) (t : Table) (bytes image : List ℕ) (k : ℕ)
    (d : Difference) (p : SettlePlanned t (take k bytes) d) (image' : List ℕ) where
  module _ (s : Stretch) (bs : List Stretch) (h : Kept first l.settled (s ∷ bs) acc t bytes image) where
    handed : Stands (map stretch_join (s ∷ bs)) t (take k bytes)
    handed = stands_handed (map stretch_join (s ∷ bs)) t bytes h.stands k p.reaches

    is_first : d ≡ stretch_join s
    is_first = ok_same _ _ (sym p.here ∙ entry_reads (s ∷ bs) t (take k bytes) handed h.good 0 s (omega arith))

    can_express : Expressible d
    can_express = subst Expressible (sym is_first) h.good.0.join

    done : image' ≡ image_after d.cells image → Kept first (l.settled ++ streams_of s) bs (acc ++ []) (drop_row t) (bytes_with t.fill (take k bytes) 0 (end_of (row_at t 0)) [] ++ drop k bytes) image'
    done e = rw (append-nil acc) (record {
      stands = stands_beyond _ _ _ (stands_settle (stretch_join s) (map stretch_join bs) t (take k bytes) handed) (drop k bytes);
      good = h.good.1;
      streams = h.streams;
      cut = append_assoc l.settled (streams_of s) (flat_map streams_of bs) ∙ h.cut;
      back = ap (applied_all (map stretch_join bs)) (e ∙ ap (λ x. image_after x.cells image) is_first) ∙ h.back;
    })

    stopped : image_after d.cells image' ≡ image_after d.cells image → Kept first l.settled (s ∷ bs) (acc ++ []) t (take k bytes ++ drop k bytes) image'
    stopped e = rw (append-nil acc, take-append-drop k bytes) (record {
      stands = h.stands;
      good = h.good;
      streams = h.streams;
      cut = h.cut;
      back = ap (applied_all (map stretch_join bs)) (subst (λ x. image_after x.cells image' ≡ image_after x.cells image) is_first e) ∙ h.back;
    })

  pub settle_kept : (ss : List Stretch) → Kept first l.settled ss acc t bytes image → (Expressible d → image' ≡ image_after d.cells image)
      → Kept first (settle_first l ss).settled (settle_first l ss).stretches (acc ++ []) (drop_row t) (bytes_with t.fill (take k bytes) 0 (end_of (row_at t 0)) [] ++ drop k bytes) image'
  settle_kept [] h e = let m = p.there in absurd (omega (arith, stands_count [] t bytes h.stands))
  settle_kept (s ∷ bs) h e = done s bs h (e (can_express s bs h))

  pub stop_kept : (ss : List Stretch) → Kept first l.settled ss acc t bytes image → (Expressible d → image_after d.cells image' ≡ image_after d.cells image)
      → Kept first l.settled ss (acc ++ []) t (take k bytes ++ drop k bytes) image'
  stop_kept [] h e = let m = p.there in absurd (omega (arith, stands_count [] t bytes h.stands))
  stop_kept (s ∷ bs) h e = stopped s bs h (e (can_express s bs h))
