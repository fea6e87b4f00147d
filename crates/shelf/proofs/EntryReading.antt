-- An entry of a good stretch reads as the join of the stretch. Assumes nothing.
use Rattle.std.proofs.Common.{◌≡◌, ℕ, ◌<◌, true, not, List, map, length, get_or, Ok, ap, ◌∙◌}
use Rattle.fault.specs.Fault.{fault, fault_by, in_entry, and_then}
use Rattle.fault.specs.declared.cause.Cause.TheVariants.{Damaged}
use Rattle.std.specs.List.{AllByRecursion}
use Rattle.std.proofs.ByRecursion.{All-get_or}
use Rattle.std.proofs.lemmas.Bool.{and_from}
use Rattle.std.proofs.lemmas.List.{length-map, get_or-map}
use Rattle.stream.specs.Difference.{canonical_bytes}
use Rattle.join.proofs.CanonicalRecords.{expressed_meaning}
use Rattle.table.specs.Tables.{Table, row_at}
use Rattle.shelf.specs.Entries.{refuse_if, is_whole, read_row, entry}
use Rattle.shelf.specs.Ledger.{Stretch}
use Rattle.shelf.specs.Stretches.{stretch_join}
use Rattle.stream.proofs.StreamRefusals.{same_refl}
use Rattle.shelf.proofs.ShelfDifferences.{Stands, stands_slice, stands_names}
use Rattle.shelf.proofs.StretchJoins.{GoodStretch}

pub entry_reads : (ss : List Stretch) (t : Table) (bytes : List ℕ) → Stands (map stretch_join ss) t bytes → AllByRecursion GoodStretch ss → (i : ℕ) (s : Stretch) → i < length ss
    → entry t bytes i ≡ Ok (stretch_join (get_or ss i s))
unfolding entry
entry_reads ss t bytes h g i s l =
    let ds = map stretch_join ss in
    let r = row_at t i in
    let d = stretch_join (get_or ss i s) in
    let is : get_or ds i d ≡ d = get_or-map stretch_join ss i s d l in
    let there : i < length ds = rw (length-map ss stretch_join) l in
    let names = stands_names ds t bytes h i d there in
    let whole : is_whole r (canonical_bytes d) d ≡ true =
    rw (names.0, names.1, is) (and_from _ _ (same_refl (canonical_bytes d)) (and_from _ _ (same_refl d.from) (same_refl d.to))) in
    ap (λ x. fault_by (in_entry i) (read_row r x)) (stands_slice ds t bytes h i d there ∙ ap canonical_bytes is)
    ∙ ap (λ m. fault_by (in_entry i) (and_then m (λ x. refuse_if (not (is_whole r (canonical_bytes d) x)) (fault Damaged 0) (Ok x)))) (expressed_meaning d (All-get_or GoodStretch ss i s l g).join)
    ∙ ap (λ b. fault_by (in_entry i) (refuse_if (not b) (fault Damaged 0) (Ok d))) whole
