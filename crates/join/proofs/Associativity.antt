-- The bracketing of joins does not matter, to differences and to streams; the ranges of a join.
-- Assumes nothing.
use Rattle.std.proofs.Common.{◌≡◌, ℕ, ◌^◌, ◌<◌, ◌≤◌, Bool, true, false, cond, ltb, List, map, length, Ok, Err, Option, Result, sym, refl, ap, ◌∙◌, subst, ap₂, arith}
use Rattle.std.proofs.lemmas.List.{length-map}
use Rattle.std.proofs.lemmas.Bool.{ltb-false, cond-true}
use Rattle.std.specs.Option.{option_map}
use Rattle.fault.specs.Fault.{and_then, fault_by, in_entry}
use Rattle.fault.specs.declared.fault.Fault.{Fault}
use Rattle.overlay.specs.declared.ranges.RangeMark.TheVariants as range
use Rattle.overlay.specs.Marks.{range_moves, range_alike}
use Rattle.overlay.specs.States.{overlay_states}
use Rattle.overlay.specs.Runs.{run_states, runs_from}
use Rattle.overlay.proofs.OverlayLaws.{overlaid_length, bracketing, maps_through}
use Rattle.stream.specs.Records.{Content}
use Rattle.stream.specs.Verdict.{verdict, same}
use Rattle.stream.specs.Wellformed.{Bytes}
use Rattle.stream.specs.Meaning.{Cell, zeroed, mark_of, ranges}
use Rattle.stream.specs.Difference.{Difference, difference, meaning, join_difference, canonical_bytes, Expressible}
use Rattle.stream.proofs.ReadRecords.{passes, ok_same}
use Rattle.stream.proofs.StreamRefusals.{accepted_is_stream}
use Rattle.stream.proofs.SoundLists.{never, sound_exactly}
use Rattle.join.specs.Plans.{within_limit}
use Rattle.join.specs.Joins.{stream_of_join, joined_stream}
use Rattle.join.specs.Laws.{JoinsAssociative, JoinedStreamsAssociative, RangesOverlaid, JoinMeans, CanonicalMeans}
use Rattle.join.proofs.Expressible.{sound_expressible}
use Rattle.join.proofs.CanonicalRecords.{expressed_meaning}
use Rattle.stream.proofs.GatheredRecords.{difference_same}
use Rattle.stream.proofs.FoundRanges.{ranges_runs}

pub joined_bracketing : JoinsAssociative
joined_bracketing a b c = difference_same _ _ refl refl (bracketing zeroed a.cells b.cells c.cells)

pub ranges_overlaid : RangesOverlaid
unfolding ranges
ranges_overlaid d e k l =
    let whole : (ds : List (Option Cell)) → length ds < 2 ^ 64 → map (option_map mark_of) ds ≡ run_states range_moves (ranges ds) (length ds) = λ ds h.
    sym (ap (run_states range_moves (ranges ds)) (sym (length-map ds (option_map mark_of))) ∙ (ranges_runs ds h).paints) in
    ap (runs_from range_moves range_alike 0) (maps_through mark_of zeroed d e ∙ ap₂ (overlay_states range.Zeroed) (whole d k) (whole e l))

-- what a stream whose meaning is known was read as
pub meaning_back : (o : Result (List Content) Fault) (d : Difference) → and_then o (λ cs. Ok (difference cs)) ≡ Ok d → (cs : List Content) × (o ≡ Ok cs) × (difference cs ≡ d)
meaning_back (Ok cs) d h = (cs, refl, ok_same (difference cs) d h)
meaning_back (Err f) d h = never d f h

-- what a stream means can be expressed
pub meaning_expressible : (xs : List ℕ) (d : Difference) → Bytes xs → meaning xs ≡ Ok d → Expressible d
unfolding meaning
meaning_expressible xs d b h =
    let m = meaning_back (verdict xs) d h in
    subst Expressible m.2 (sound_expressible m.0 ((sound_exactly m.0).0 (accepted_is_stream xs m.0 b m.1).1))

-- a join that is not refused
pub record Done (a b ab : List ℕ) : Type 0 where
  pub earlier : Difference
  pub later : Difference
  pub was : meaning a ≡ Ok earlier
  pub is : meaning b ≡ Ok later
  pub meet : same later.from earlier.to ≡ true
  pub few : length (ranges (join_difference earlier later).cells) ≤ 512
  pub bytes : canonical_bytes (join_difference earlier later) ≡ ab

test_back : {A E : Type 0} (t : Bool) (x : Result A E) (e : E) (y : A) → cond t x (Err e) ≡ Ok y → (t ≡ true) × (x ≡ Ok y)
test_back true x e y h = (refl, h)
test_back false x e y h = never y e h

done_read : (a b ab : List ℕ) (d e : Result Difference Fault) → meaning a ≡ d → meaning b ≡ e
    → and_then (fault_by (in_entry 0) d) (λ x. and_then (fault_by (in_entry 1) e) (λ y. stream_of_join x y)) ≡ Ok ab → Done a b ab
done_read a b ab (Ok d) (Ok e) p q h =
    let t = test_back (same e.from d.to) _ _ ab h in
    let l = passes (ltb 512 (length (ranges (join_difference d e).cells))) _ _ ab t.1 in
    record { earlier = d; later = e; was = p; is = q; meet = t.0; few = ltb-false _ _ l.0; bytes = ok_same _ ab l.1 }
done_read a b ab (Ok d) (Err f) p q h = never ab _ h
done_read a b ab (Err f) e p q h = never ab _ h

pub done : (a b ab : List ℕ) → joined_stream a b ≡ Ok ab → Done a b ab
done a b ab h = done_read a b ab (meaning a) (meaning b) refl refl h

-- the join of two streams whose meanings are known and meet
pub joined_as : (a b : List ℕ) (d e : Difference) → meaning a ≡ Ok d → meaning b ≡ Ok e → same e.from d.to ≡ true → joined_stream a b ≡ within_limit (join_difference d e) (canonical_bytes (join_difference d e))
joined_as a b d e p q m =
    ap₂ (λ x y. and_then (fault_by (in_entry 0) x) (λ u. and_then (fault_by (in_entry 1) y) (λ v. stream_of_join u v))) p q ∙ cond-true (same e.from d.to) _ _ m

pub join_expressible : (d e : Difference) → Expressible d → Expressible e → length (ranges (join_difference d e).cells) ≤ 512 → Expressible (join_difference d e)
join_expressible d e x y h = record {
  from_good = x.from_good;
  to_good = y.to_good;
  small = omega (arith, overlaid_length zeroed d.cells e.cells, y.small);
  few = h;
}

-- a join that is not refused reads back as the join of the differences
pub done_meaning : (a b ab : List ℕ) → Bytes a → Bytes b → (j : Done a b ab) → meaning ab ≡ Ok (join_difference j.earlier j.later)
done_meaning a b ab ba bb j =
    let x = join_expressible j.earlier j.later (meaning_expressible a j.earlier ba j.was) (meaning_expressible b j.later bb j.is) j.few in
    ap meaning (sym j.bytes) ∙ expressed_meaning (join_difference j.earlier j.later) x

pub join_means : JoinMeans
join_means a b ab ba bb h = let j = done a b ab h in (j.earlier, j.later, j.was, j.is, done_meaning a b ab ba bb j)

canonical_read : (a c : List ℕ) (o : Result Difference Fault) → Bytes a → meaning a ≡ o → and_then o (λ d. Ok (canonical_bytes d)) ≡ Ok c → meaning c ≡ o
canonical_read a c (Ok d) b e h = ap meaning (sym (ok_same (canonical_bytes d) c h)) ∙ expressed_meaning d (meaning_expressible a d b e)
canonical_read a c (Err f) b e h = never c f h

pub canonical_means : CanonicalMeans
canonical_means a c b h = canonical_read a c (meaning a) b refl h

pub streams_bracketing : JoinedStreamsAssociative
streams_bracketing a b c ab bc ba bb bc' h k =
    let x = done a b ab h in
    let y = done b c bc k in
    let one : x.later ≡ y.earlier = ok_same _ _ (sym x.is ∙ y.was) in
    let left = joined_as ab c _ y.later (done_meaning a b ab ba bb x) y.is (ap (λ z. same y.later.from z.to) one ∙ y.meet) in
    let right = joined_as a bc x.earlier _ x.was (done_meaning b c bc bb bc' y) (ap (λ z. same z.from x.earlier.to) (sym one) ∙ x.meet) in
    let is : join_difference (join_difference x.earlier x.later) y.later ≡ join_difference x.earlier (join_difference y.earlier y.later) =
    joined_bracketing x.earlier x.later y.later ∙ ap (λ z. join_difference x.earlier (join_difference z y.later)) one in
    left ∙ ap (λ z. within_limit z (canonical_bytes z)) is ∙ sym right
