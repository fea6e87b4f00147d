-- The laws of overlays on lists of states. Assumes nothing.
use Rattle.std.proofs.Common.{◌≡◌, ℕ, zero, suc, ◌<◌, cond, ltb, List, [], ◌∷◌, map, length, get_or, replicate, Some, None, Option, sym, refl, ap, ◌∙◌, ⊎_elim, arith}
use Rattle.std.proofs.lemmas.List.{get_or_default, get_or_past}
use Rattle.std.proofs.lemmas.Bool.{cases_lt, lt-ltb, le-ltb}
use Rattle.std.specs.Option.{option_map}
use Rattle.overlay.specs.States.{state_over, first_or, rest, overlay_states, overlay_states_all}
use Rattle.overlay.specs.Laws.{OverlaysAssociative, OverNothing, StretchesUnite, MapsThrough, MapsThroughAll}
use Rattle.overlay.proofs.RunPositions.{over_assoc, over_none}

pub cons : {X : Type 0} {x y : X} {xs ys : List X} → x ≡ y → xs ≡ ys → x ∷ xs ≡ y ∷ ys
cons p q = rw (p, q)

-- an overlay has the later size
pub overlaid_length : {M : Type 0} (filler : M) (ds es : List (Option M)) → length (overlay_states filler ds es) ≡ length es
unfolding overlay_states
overlaid_length filler ds [] = refl
overlaid_length filler ds (e ∷ es) = ap suc (overlaid_length filler (rest ds) es)

-- the join rule at a position
pub overlaid_getD : {M : Type 0} (filler : M) (ds es : List (Option M)) (p : ℕ) → p < length es → get_or (overlay_states filler ds es) p None ≡ state_over (get_or es p None) (get_or ds p (Some filler))
unfolding overlay_states
overlaid_getD filler ds [] p l = absurd (omega arith)
overlaid_getD filler [] (e ∷ es) zero l = refl
overlaid_getD filler (d ∷ ds) (e ∷ es) zero l = refl
overlaid_getD filler [] (e ∷ es) (suc p) l = overlaid_getD filler [] es p (omega arith)
overlaid_getD filler (d ∷ ds) (e ∷ es) (suc p) l = overlaid_getD filler ds es p (omega arith)

-- what stands under a position: the earlier state below the earlier size, the filler past it
pub under_cond : {M : Type 0} (filler : M) (ds : List (Option M)) (p : ℕ) → get_or ds p (Some filler) ≡ cond (ltb p (length ds)) (get_or ds p None) (Some filler)
under_cond filler ds p =
    ⊎_elim
    (λ b. rw (lt-ltb p (length ds) b) (get_or_default ds p (Some filler) None b))
    (λ b. rw (le-ltb p (length ds) b) (get_or_past ds p (Some filler) b))
    (cases_lt p (length ds))

pub bracketing : {M : Type 0} → OverlaysAssociative M
unfolding overlay_states
bracketing filler a b [] = refl
bracketing filler a [] (c ∷ cs) = cons (sym (over_assoc c (Some filler) (first_or (Some filler) a))) (bracketing filler (rest a) [] cs)
bracketing filler a (b ∷ bs) (c ∷ cs) = cons (sym (over_assoc c b (first_or (Some filler) a))) (bracketing filler (rest a) bs cs)

over_kept : {M : Type 0} (filler : M) (ds : List (Option M)) → overlay_states filler (replicate (length ds) None) ds ≡ ds
unfolding overlay_states
over_kept filler [] = refl
over_kept filler (d ∷ ds) = cons (over_none d) (over_kept filler ds)

pub over_nothing : {M : Type 0} → OverNothing M
over_nothing filler n ds e = ap (λ m. overlay_states filler (replicate m None) ds) (sym e) ∙ over_kept filler ds

-- an overlay over one more difference before all others
under_all : {M : Type 0} (filler : M) (c d : List (Option M)) (ds : List (List (Option M))) → overlay_states filler c (overlay_states_all filler d ds) ≡ overlay_states_all filler (overlay_states filler c d) ds
unfolding overlay_states_all
under_all filler c d [] = refl
under_all filler c d (e ∷ es) = under_all filler c (overlay_states filler d e) es ∙ ap (λ x. overlay_states_all filler x es) (sym (bracketing filler c d e))

pub stretches_unite : {M : Type 0} → StretchesUnite M
unfolding overlay_states_all
stretches_unite filler d [] e es = under_all filler d e es
stretches_unite filler d (x ∷ ds) e es = stretches_unite filler (overlay_states filler d x) ds e es

pub mapped_over : {M N : Type 0} (f : M → N) (a b : Option M) → option_map f (state_over a b) ≡ state_over (option_map f a) (option_map f b)
mapped_over f None b = refl
mapped_over f (Some m) b = refl

pub maps_through : {M N : Type 0} → MapsThrough M N
unfolding overlay_states
maps_through f filler ds [] = refl
maps_through f filler [] (e ∷ es) = cons (mapped_over f e (Some filler)) (maps_through f filler [] es)
maps_through f filler (d ∷ ds) (e ∷ es) = cons (mapped_over f e d) (maps_through f filler ds es)

pub maps_through_all : {M N : Type 0} → MapsThroughAll M N
unfolding overlay_states_all
maps_through_all f filler d [] = refl
maps_through_all f filler d (e ∷ es) = maps_through_all f filler (overlay_states filler d e) es ∙ ap (λ x. overlay_states_all (f filler) x (map (map (option_map f)) es)) (maps_through f filler d e)
