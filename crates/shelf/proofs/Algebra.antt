-- Differences applied in order; stretches unite; the overlay of a stretch's ranges are the ranges
-- of its join.
use Rattle.std.proofs.Common.{◌≡◌, ℕ, ◌^◌, ◌<◌, List, [], ◌∷◌, ◌++◌, length, sym, refl, ap, ◌∙◌, arith}
use Rattle.std.specs.List.{AllByRecursion}
use Rattle.std.proofs.lemmas.List.{map-append}
use Rattle.overlay.proofs.OverlayLaws.{overlaid_length}
use Rattle.stream.specs.Meaning.{zeroed, ranges}
use Rattle.stream.specs.Difference.{Difference, join_difference, image_after}
use Rattle.join.proofs.Associativity.{joined_bracketing, ranges_overlaid}
use Rattle.shelf.specs.Ledger.{Stretch, streams_of, both}
use Rattle.shelf.specs.Stretches.{difference_in, differences_in, applied_all, joined_all, stretch_join, overlay_all, overlay_from}

pub applied_push : (ds : List Difference) (d : Difference) (image : List ℕ) → applied_all (ds ++ (d ∷ [])) image ≡ image_after d.cells (applied_all ds image)
applied_push [] d image = refl
applied_push (x ∷ ds) d image = applied_push ds d (image_after x.cells image)

joined_under : (d e : Difference) (es : List Difference) → join_difference d (joined_all e es) ≡ joined_all (join_difference d e) es
joined_under d e [] = refl
joined_under d e (f ∷ fs) = joined_under d (join_difference e f) fs ∙ ap (λ x. joined_all x fs) (sym (joined_bracketing d e f))

joined_unite : (d : Difference) (ds : List Difference) (e : Difference) (es : List Difference) → join_difference (joined_all d ds) (joined_all e es) ≡ joined_all d (ds ++ (e ∷ es))
joined_unite d [] e es = joined_under d e es
joined_unite d (f ∷ fs) e es = joined_unite (join_difference d f) fs e es

-- two stretches as one
pub join_both : (s t : Stretch) → join_difference (stretch_join s) (stretch_join t) ≡ stretch_join (both s t)
join_both s t =
    joined_unite (difference_in s.oldest) (differences_in s.later) (difference_in t.oldest) (differences_in t.later)
    ∙ ap (joined_all (difference_in s.oldest)) (sym (map-append difference_in s.later (streams_of t)))

-- a stream of fewer than 2^64 positions
abbrev pub Small : Difference → Type 0
Small d = length d.cells < 2 ^ 64

pub joined_small : (d e : Difference) → Small e → Small (join_difference d e)
joined_small d e h = omega (arith, overlaid_length zeroed d.cells e.cells)

pub overlay_is : (d : Difference) (es : List Difference) → Small d → AllByRecursion Small es → overlay_from d es ≡ ranges (joined_all d es).cells
overlay_is d [] h k = refl
overlay_is d (e ∷ es) h k =
    ap (λ rs. overlay_all rs (length e.cells) es) (sym (ranges_overlaid d.cells e.cells h k.0))
    ∙ ap (λ n. overlay_all (ranges (join_difference d e).cells) n es) (sym (overlaid_length zeroed d.cells e.cells))
    ∙ overlay_is (join_difference d e) es (joined_small d e k.0) k.1
