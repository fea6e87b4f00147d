-- Stretches that are united: their streams, their joins, and what they come to on an image.
use Rattle.std.proofs.Common.{◌≡◌, ℕ, zero, suc, List, [], ◌∷◌, ◌++◌, map, length, Ok, sym, refl, ap, ◌∙◌, arith}
use Rattle.std.specs.List.{flat_map, AllByRecursion}
use Rattle.std.proofs.lemmas.List.{append_assoc}
use Rattle.std.proofs.ByRecursion.{All-weaker, All-map}
use Rattle.stream.specs.Meaning.{ranges}
use Rattle.stream.specs.Difference.{meaning, image_after, Expressible}
use Rattle.join.proofs.JoinedImages.{applied_in_turn}
use Rattle.shelf.specs.Ledger.{Stretch, streams_of, both, neighbours_as_one}
use Rattle.shelf.specs.Stretches.{difference_in, differences_in, applied_all, stretch_join, stretch_overlay}
use Rattle.shelf.proofs.AcceptedStreams.{expressible}
use Rattle.shelf.proofs.Algebra.{join_both, Small, overlay_is}

-- items i and i + 1 made one, around them
pub united_is : {X : Type 0} (f : X → X → X) (pre : List X) (x y : X) (bs : List X) → neighbours_as_one f (length pre) (pre ++ (x ∷ y ∷ bs)) ≡ pre ++ (f x y ∷ bs)
united_is f [] x y bs = refl
united_is f (p ∷ []) x y bs = refl
united_is f (p ∷ q ∷ qs) x y bs = ap (λ zs. p ∷ zs) (united_is f (q ∷ qs) x y bs)

pub all_split : {X : Type 0} (P : X → Type 0) (xs ys : List X) → AllByRecursion P (xs ++ ys) → AllByRecursion P xs × AllByRecursion P ys
all_split P [] ys h = (tt, h)
all_split P (x ∷ xs) ys h = let k = all_split P xs ys h.1 in ((h.0, k.0), k.1)

-- they come to the same on an image, and have the same streams in order
pub applied_united : (i : ℕ) (ss : List Stretch) (image : List ℕ) → applied_all (map stretch_join (neighbours_as_one both i ss)) image ≡ applied_all (map stretch_join ss) image
applied_united zero [] image = refl
applied_united (suc i) [] image = refl
applied_united zero (s ∷ []) image = refl
applied_united (suc i) (s ∷ []) image = refl
applied_united zero (s ∷ t ∷ ss) image =
    ap (applied_all (map stretch_join ss)) (ap (λ d. image_after d.cells image) (sym (join_both s t)) ∙ applied_in_turn (stretch_join s).cells (stretch_join t).cells image)
applied_united (suc i) (s ∷ t ∷ ss) image = applied_united i (t ∷ ss) (image_after (stretch_join s).cells image)

pub streams_united : (i : ℕ) (ss : List Stretch) → flat_map streams_of (neighbours_as_one both i ss) ≡ flat_map streams_of ss
streams_united zero [] = refl
streams_united (suc i) [] = refl
streams_united zero (s ∷ []) = refl
streams_united (suc i) (s ∷ []) = refl
streams_united zero (s ∷ t ∷ ss) = append_assoc (streams_of s) (streams_of t) (flat_map streams_of ss)
streams_united (suc i) (s ∷ t ∷ ss) = ap (λ xs. streams_of s ++ xs) (streams_united i (t ∷ ss))

-- a stream that has a meaning
abbrev pub Meant : List ℕ → Type 0
Meant stream = meaning stream ≡ Ok (difference_in stream)

-- a stretch of such streams, whose join can be said
pub record GoodStretch (s : Stretch) : Type 0 where
  pub streams : AllByRecursion Meant (streams_of s)
  pub join : Expressible (stretch_join s)

small_stream : (stream : List ℕ) → Meant stream → Small (difference_in stream)
small_stream stream e = let h = (expressible stream (difference_in stream) e).small in omega arith

-- the overlay of a good stretch are the ranges of its join
pub overlay_good : (s : Stretch) → GoodStretch s → stretch_overlay s ≡ ranges (stretch_join s).cells
overlay_good s g =
    overlay_is (difference_in s.oldest) (differences_in s.later) (small_stream s.oldest g.streams.0)
    (All-map Small difference_in s.later (All-weaker Meant (λ x. Small (difference_in x)) small_stream s.later g.streams.1))
