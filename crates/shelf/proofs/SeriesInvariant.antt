-- What holds of shelf, bytes, image and ledger between two calls, and that each call keeps it.
use Rattle.std.proofs.Common.{◌≡◌, ℕ, ◌+◌, ◌<◌, ◌≤◌, List, [], ◌∷◌, ◌++◌, map, length, get_or, take, drop, Ok, sym, ap, ◌∙◌, subst, ap₂, arith}
use Rattle.std.specs.List.{flat_map, AllByRecursion}
use Rattle.std.proofs.lemmas.List.{append-nil, map-append, length-map, get_or_at, get_or-append-add, flat_map_more}
use Rattle.std.proofs.ByRecursion.{All-append, All-push}
use Rattle.stream.specs.Meaning.{ranges}
use Rattle.stream.specs.Difference.{Difference, join_difference, image_after, canonical_bytes, Expressible}
use Rattle.join.proofs.Associativity.{join_expressible}
use Rattle.table.specs.Tables.{Table, end_of, row_at, add_row, unite_rows}
use Rattle.shelf.specs.Entries.{bytes_with, entry}
use Rattle.shelf.specs.Ledger.{Stretch, streams_of, lone, both, neighbours_as_one}
use Rattle.shelf.specs.Stretches.{difference_or_empty, difference_in, differences_in, applied_all, stretch_join}
use Rattle.stream.proofs.ReadRecords.{ok_same}
use Rattle.shelf.proofs.ListParts.{AroundTwo, around_two}
use Rattle.shelf.proofs.AcceptedStreams.{expressible}
use Rattle.shelf.proofs.Algebra.{applied_push, join_both}
use Rattle.shelf.proofs.ShelfDifferences.{long, Stands, stands_count, stands_handed, stands_beyond}
use Rattle.shelf.proofs.ShelfChanges.{stands_put, stands_join}
use Rattle.shelf.proofs.CallPlans.{PutPlanned, JoinPlanned}
use Rattle.shelf.proofs.EntryReading.{entry_reads}
use Rattle.shelf.proofs.StretchJoins.{united_is, all_split, applied_united, streams_united, Meant, GoodStretch}

-- `first` is the first image, `settled` and `ss` are the ledger's, `acc` the accepted streams
pub record Kept (first : List ℕ) (settled : List (List ℕ)) (ss : List Stretch) (acc : List (List ℕ)) (t : Table) (bytes image : List ℕ) : Type 0 where
  pub stands : Stands (map stretch_join ss) t bytes
  pub good : AllByRecursion GoodStretch ss
  pub streams : AllByRecursion Meant acc
  pub cut : settled ++ flat_map streams_of ss ≡ acc
  pub back : applied_all (map stretch_join ss) image ≡ applied_all (differences_in acc) first

module _ (first : List ℕ) (settled : List (List ℕ)) (ss : List Stretch) (acc : List (List ℕ)) (t : Table) (bytes image : List ℕ) (h : Kept first settled ss acc t bytes image) where
  module _ (k : ℕ) (stream : List ℕ) (d : Difference) (p : PutPlanned t (take k bytes) stream d) where
    is_meant : difference_in stream ≡ d
    is_meant = ap difference_or_empty p.means

    put_stands : Stands (map stretch_join (ss ++ (lone stream ∷ []))) (add_row t (long d) d.from d.to) (bytes_with t.fill (take k bytes) t.fill t.fill (canonical_bytes d) ++ drop k bytes)
    put_stands =
        let whole : map stretch_join ss ++ (d ∷ []) ≡ map stretch_join (ss ++ (lone stream ∷ [])) =
        ap (λ x. map stretch_join ss ++ (x ∷ [])) (sym is_meant) ∙ sym (map-append stretch_join ss (lone stream ∷ [])) in
        let handed = stands_handed (map stretch_join ss) t bytes h.stands k p.reaches in
        subst (λ ds. Stands ds (add_row t (long d) d.from d.to) (bytes_with t.fill (take k bytes) t.fill t.fill (canonical_bytes d) ++ drop k bytes)) whole
        (stands_beyond _ _ _ (stands_put (map stretch_join ss) d t (take k bytes) handed) (drop k bytes))

    pub put_kept : Kept first settled (ss ++ (lone stream ∷ [])) (acc ++ (stream ∷ [])) (add_row t (long d) d.from d.to) (bytes_with t.fill (take k bytes) t.fill t.fill (canonical_bytes d) ++ drop k bytes) image
    put_kept =
        let here : Meant stream = p.means ∙ ap Ok (sym is_meant) in
        let new : GoodStretch (lone stream) = record { streams = (here, tt); join = subst Expressible (sym is_meant) (expressible stream d p.means) } in
        record {
          stands = put_stands;
          good = All-push GoodStretch ss (lone stream) h.good new;
          streams = All-push Meant acc stream h.streams here;
          cut = sym (flat_map_more streams_of settled ss (lone stream)) ∙ ap (λ x. x ++ (stream ∷ [])) h.cut;
          back = ap (λ ds. applied_all ds image) (map-append stretch_join ss (lone stream ∷ [])) ∙ applied_push (map stretch_join ss) (difference_in stream) image
              ∙ ap (image_after (difference_in stream).cells) h.back ∙ sym (applied_push (differences_in acc) (difference_in stream) first)
              ∙ ap (λ ds. applied_all ds first) (sym (map-append difference_in acc (stream ∷ [])));
        }

  module _ (k i : ℕ) (j : Difference) (p : JoinPlanned t (take k bytes) i j) where
    -- the two stretches
    there : i + 1 < length ss
    there = omega (arith, p.there, stands_count (map stretch_join ss) t bytes h.stands, length-map ss stretch_join)

    two : AroundTwo ss i
    two = around_two ss i there

    handed : Stands (map stretch_join ss) t (take k bytes)
    handed = stands_handed (map stretch_join ss) t bytes h.stands k p.reaches

    abbrev before : List Difference
    before = map stretch_join two.before

    abbrev behind : List Difference
    behind = map stretch_join two.behind

    two_joins : map stretch_join ss ≡ before ++ (stretch_join two.here ∷ stretch_join two.next ∷ behind)
    two_joins = ap (map stretch_join) two.whole ∙ map-append stretch_join two.before (two.here ∷ two.next ∷ two.behind)

    two_good : AllByRecursion GoodStretch two.before × AllByRecursion GoodStretch (two.here ∷ two.next ∷ two.behind)
    two_good = all_split GoodStretch two.before (two.here ∷ two.next ∷ two.behind) (subst (AllByRecursion GoodStretch) two.whole h.good)

    count : length before ≡ i
    count = length-map two.before stretch_join ∙ two.count

    reads : (n : ℕ) → n < length ss → entry t (take k bytes) n ≡ Ok (stretch_join (get_or ss n two.here))
    reads n l = entry_reads ss t (take k bytes) handed h.good n two.here l

    is_earlier : p.earlier ≡ stretch_join two.here
    is_earlier =
        ok_same _ _ (sym p.here ∙ reads i (omega (arith, there)))
        ∙ ap stretch_join (ap (λ xs. get_or xs i two.here) two.whole ∙ get_or_at two.before two.here (two.next ∷ two.behind) two.here i two.count)

    is_later : p.later ≡ stretch_join two.next
    is_later =
        ok_same _ _ (sym p.next ∙ reads (i + 1) there)
        ∙ ap stretch_join (ap₂ (λ xs n. get_or xs (n + 1) two.here) two.whole (sym two.count) ∙ get_or-append-add two.before (two.here ∷ two.next ∷ two.behind) 1 two.here)

    is_join : j ≡ join_difference (stretch_join two.here) (stretch_join two.next)
    is_join = p.is ∙ ap₂ join_difference is_earlier is_later

    united_whole : neighbours_as_one both i ss ≡ two.before ++ (both two.here two.next ∷ two.behind)
    united_whole = ap₂ (neighbours_as_one both) (sym two.count) two.whole ∙ united_is both two.before two.here two.next two.behind

    united_joins : before ++ (j ∷ behind) ≡ map stretch_join (neighbours_as_one both i ss)
    united_joins =
        ap (λ x. before ++ (x ∷ behind)) (is_join ∙ join_both two.here two.next)
        ∙ sym (map-append stretch_join two.before (both two.here two.next ∷ two.behind)) ∙ ap (map stretch_join) (sym united_whole)

    join_stands : Stands (map stretch_join (neighbours_as_one both i ss)) (unite_rows t i (long j)) (bytes_with t.fill (take k bytes) (row_at t i).place (end_of (row_at t (i + 1))) (canonical_bytes j) ++ drop k bytes)
    join_stands =
        let now = subst (λ ds. Stands ds t (take k bytes)) two_joins handed in
        subst (λ ds. Stands ds (unite_rows t i (long j)) (bytes_with t.fill (take k bytes) (row_at t i).place (end_of (row_at t (i + 1))) (canonical_bytes j) ++ drop k bytes)) united_joins
        (stands_beyond _ _ _ (stands_join before (stretch_join two.here) (stretch_join two.next) behind t (take k bytes) now i count j (ap (λ x. x.from) is_join) (ap (λ x. x.to) is_join)) (drop k bytes))

    good_both : GoodStretch (both two.here two.next)
    good_both = record {
      streams = All-append Meant (streams_of two.here) (streams_of two.next) two_good.1.0.streams two_good.1.1.0.streams;
      join = subst Expressible (join_both two.here two.next) (join_expressible _ _ two_good.1.0.join two_good.1.1.0.join (subst (λ x. length (ranges x.cells) ≤ 512) is_join p.few));
    }

    pub join_kept : Kept first settled (neighbours_as_one both i ss) (acc ++ []) (unite_rows t i (long j)) (bytes_with t.fill (take k bytes) (row_at t i).place (end_of (row_at t (i + 1))) (canonical_bytes j) ++ drop k bytes) image
    join_kept = rw (append-nil acc) (record {
      stands = join_stands;
      good = subst (AllByRecursion GoodStretch) (sym united_whole) (All-append GoodStretch two.before (both two.here two.next ∷ two.behind) two_good.0 (good_both, two_good.1.1.1));
      streams = h.streams;
      cut = ap (λ x. settled ++ x) (streams_united i ss) ∙ h.cut;
      back = applied_united i ss image ∙ h.back;
    })
