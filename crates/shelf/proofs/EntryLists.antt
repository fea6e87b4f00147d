-- What an entry reads as between two calls, and what a list call that was not refused shows: the
-- join and the overlay of the entry's stretch.
use Rattle.std.proofs.Common.{◌≡◌, ℕ, ◌<◌, ◌≤◌, List, [], ◌++◌, map, length, get_or, take, drop, Ok, Err, Result, sym, refl, ap, ◌∙◌, subst, arith}
use Rattle.fault.specs.declared.fault.Fault.{Fault}
use Rattle.std.proofs.ByRecursion.{All-get_or}
use Rattle.std.proofs.lemmas.List.{length-map, get_or-map}
use Rattle.listing.specs.Text.{listing}
use Rattle.stream.specs.Meaning.{ranges}
use Rattle.stream.specs.Difference.{Difference}
use Rattle.table.specs.Tables.{Table}
use Rattle.shelf.specs.Entries.{entry}
use Rattle.shelf.specs.Outcomes.{list_plan}
use Rattle.shelf.specs.Ledger.{Stretch, lone, Ledger}
use Rattle.shelf.specs.Stretches.{stretch_join, stretch_overlay}
use Rattle.shelf.specs.Calls.{list}
use Rattle.shelf.specs.Series.{World, outcome_of}
use Rattle.store.specs.Stores.{Images}
use Rattle.stream.proofs.SoundLists.{never}
use Rattle.shelf.specs.Promise.{Lists}
use Rattle.stream.proofs.ReadRecords.{ok_same}
use Rattle.shelf.proofs.ShelfDifferences.{stands_count, stands_handed}
use Rattle.shelf.proofs.CallPlans.{list_planned}
use Rattle.shelf.proofs.EntryReading.{entry_reads}
use Rattle.shelf.proofs.StretchJoins.{GoodStretch, overlay_good}
use Rattle.shelf.proofs.SeriesInvariant.{Kept}
use Rattle.shelf.proofs.SeriesSteps.{Held}

module _ (first : List ℕ) (settled : List (List ℕ)) (ss : List Stretch) (acc : List (List ℕ)) (t : Table) (bytes image : List ℕ) (h : Kept first settled ss acc t bytes image)
    (k i : ℕ) (l : i < length t.rows) (reaches : t.fill ≤ length (take k bytes)) where
  there : i < length ss
  there = omega (arith, stands_count (map stretch_join ss) t bytes h.stands, length-map ss stretch_join)

  abbrev here : Stretch
  here = get_or ss i (lone [])

  reads : entry t (take k bytes) i ≡ Ok (stretch_join here)
  reads = entry_reads ss t (take k bytes) (stands_handed (map stretch_join ss) t bytes h.stands k reaches) h.good i (lone []) there

  pub reads_join : (x : Result Difference Fault) → entry t (take k bytes) i ≡ get_or (map (λ s. Ok (stretch_join s)) ss) i x
  reads_join x = reads ∙ sym (get_or-map (λ s. Ok (stretch_join s)) ss i (lone []) x there)

-- a list call that was not refused
module _ (holds : Images) (l : Ledger) (first : List ℕ) (acc : List (List ℕ)) (w : World) (h : Held first l acc w) (k i : ℕ) (text : List ℕ) where
  shows : (written : List ℕ) → list_plan w.table (take k w.bytes) i text ≡ Ok written → Lists l i text (length written) (written ++ drop (length written) text)
  shows written e =
      let p = list_planned w.table (take k w.bytes) i text written e in
      let s = get_or l.stretches i (lone []) in
      let within = there first l.settled l.stretches acc w.table w.bytes w.image h k i p.there p.reaches in
      let shown : p.shown ≡ stretch_join s = ok_same _ _ (sym p.here ∙ reads first l.settled l.stretches acc w.table w.bytes w.image h k i p.there p.reaches) in
      let overlay = get_or-map stretch_overlay l.stretches i (lone []) [] within in
      let is : written ≡ listing (get_or (map stretch_overlay l.stretches) i []) =
      p.is ∙ ap (λ d. listing (ranges d.cells)) shown ∙ ap listing (sym (overlay_good s (All-get_or GoodStretch l.stretches i (lone []) within h.good))) ∙ ap listing (sym overlay) in
      record {
        there = within;
        length_is = ap length is;
        buffer_is = ap (λ x. x ++ drop (length written) text) is;
      }

  by_plan : (p : Result (List ℕ) Fault) → list_plan w.table (take k w.bytes) i text ≡ p → (n : ℕ) → (outcome_of holds w (list k i text)).answer ≡ Ok n
      → Lists l i text n (outcome_of holds w (list k i text)).buffer
  by_plan (Ok written) e n a =
      let is : length written ≡ n = cc (rw e at a) in
      rw e (subst (λ m. Lists l i text m (written ++ drop (length written) text)) is (shows written e))
  by_plan (Err f) e n a = never n f (rw e at a)

  pub list_shows : (n : ℕ) → (outcome_of holds w (list k i text)).answer ≡ Ok n → Lists l i text n (outcome_of holds w (list k i text)).buffer
  list_shows n a = by_plan _ refl n a
