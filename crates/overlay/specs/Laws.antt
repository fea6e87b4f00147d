-- The laws of overlays and of canonical runs, for every kind of mark. Rests on States and Runs.
use Rattle.std.specs.Prelude.{◌≡◌, ℕ, ◌^◌, ◌<◌, Bool, List, ◌∷◌, ◌++◌, map, length, replicate, None, Option}
use Rattle.std.specs.Option.{option_map}
use Rattle.overlay.specs.declared.runs.Run.{Run}
use Rattle.overlay.specs.States.{overlay_states, overlay_states_all}
use Rattle.overlay.specs.Runs.{Runs, runs_from}

-- the bracketing of overlays does not matter
abbrev pub OverlaysAssociative : Type 0 → Type 0
OverlaysAssociative M = (filler : M) (a b c : List (Option M)) → overlay_states filler (overlay_states filler a b) c ≡ overlay_states filler a (overlay_states filler b c)

-- over a difference of its own size that keeps all, a difference is itself
abbrev pub OverNothing : Type 0 → Type 0
OverNothing M = (filler : M) (n : ℕ) (ds : List (Option M)) → length ds ≡ n → overlay_states filler (replicate n None) ds ≡ ds

-- two stretches, one after the other: the overlay of their overlays is that of all their
-- differences
abbrev pub StretchesUnite : Type 0 → Type 0
StretchesUnite M =
    (filler : M) (d : List (Option M)) (ds : List (List (Option M))) (e : List (Option M)) (es : List (List (Option M)))
    → overlay_states filler (overlay_states_all filler d ds) (overlay_states_all filler e es) ≡ overlay_states_all filler d (ds ++ e ∷ es)

-- a change of every mark, the filler too, goes through an overlay
abbrev pub MapsThrough : Type 0 → Type 0 → Type 0
MapsThrough M N = (f : M → N) (filler : M) (ds es : List (Option M)) → map (option_map f) (overlay_states filler ds es) ≡ overlay_states (f filler) (map (option_map f) ds) (map (option_map f) es)

-- and through the overlay of a stretch
abbrev pub MapsThroughAll : Type 0 → Type 0 → Type 0
MapsThroughAll M N =
    (f : M → N) (filler : M) (d : List (Option M)) (ds : List (List (Option M)))
    → map (option_map f) (overlay_states_all filler d ds) ≡ overlay_states_all (f filler) (map (option_map f) d) (map (map (option_map f)) ds)

-- a difference has at most one list of canonical runs
abbrev pub OneRuns : {M : Type 0} → (M → ℕ → M) → Type 0
OneRuns {M} moves = (ds : List (Option M)) (xs ys : List (Run M)) → Runs moves ds xs → Runs moves ds ys → xs ≡ ys

-- a difference of fewer than 2^64 positions has canonical runs: `runs_from` gives them
abbrev pub RunsExist : {M : Type 0} → (M → ℕ → M) → (M → M → Bool) → Type 0
RunsExist {M} moves alike = (ds : List (Option M)) → length ds < 2 ^ 64 → Runs moves ds (runs_from moves alike 0 ds)
