-- What runs mean, position by position and as a list of states; canonical runs, and the one list of
-- them that a difference has. A run is an offset, a length and the mark of its first byte. Rests on
-- States.
use Rattle.std.specs.Prelude.{◌≡◌, ℕ, ◌+◌, ◌-◌, ◌<◌, ◌≤◌, Bool, if◌then◌else◌, ◌&&◌, List, [], ◌∷◌, map, length, Some, None, Option, ◌==◌, ◌≢◌, nat_le, nat_lt}
use Rattle.std.specs.List.{range_with_len}
use Rattle.std.specs.Coded.{le_prop}
use Rattle.overlay.specs.declared.runs.Run.{Run}
use Rattle.overlay.specs.States.{state_over, overlay_states}

-- the position after a run's last
abbrev pub run_end : {M : Type 0} → Run M → ℕ
run_end r = r.offset + r.length

-- the state that one run gives a position
unfoldable pub run_at : {M : Type 0} → (M → ℕ → M) → Run M → ℕ → Option M
run_at moves r p = if nat_le r.offset p && nat_lt p (run_end r) then Some (moves r.mark (p - r.offset)) else None

-- the state that runs give a position
abbrev pub state_at : {M : Type 0} → (M → ℕ → M) → List (Run M) → ℕ → Option M
state_at moves [] p = None
state_at moves (r ∷ rs) p = state_over (run_at moves r p) (state_at moves rs p)

-- the difference of a size that runs mean
abbrev pub run_states : {M : Type 0} → (M → ℕ → M) → List (Run M) → ℕ → List (Option M)
run_states moves rs size = map (state_at moves rs) (range_with_len 0 size)

-- the join by positions: what earlier runs of a size and later runs over them give a position below
-- the later size
abbrev pub overlay_state_at : {M : Type 0} → (M → ℕ → M) → M → List (Run M) → ℕ → List (Run M) → ℕ → Option M
overlay_state_at moves filler earlier size later p = state_over (state_at moves later p) (if nat_lt p size then state_at moves earlier p else Some filler)

-- runs of at least one position, in rising order and not overlapping, from a up to b
abbrev pub Rising : {M : Type 0} → ℕ → List (Run M) → ℕ → Type 0
Rising a [] b = a ≤ b
Rising a (r ∷ rs) b = (a ≤ r.offset) × (1 ≤ r.length) × Rising (run_end r) rs b

-- that runs rise can be shown in one way only, so that a sheet can keep it
pub rising_prop : {M : Type 0} (a : ℕ) (rs : List (Run M)) (b : ℕ) → IsProp (Rising a rs b)
rising_prop a [] b = le_prop
rising_prop a (r ∷ rs) b = λ h k i. (le_prop h.0 k.0 i, le_prop h.1 k.1 i, rising_prop (run_end r) rs b h.2 k.2 i)

-- the run does not go on as the first of the others
abbrev pub Parted : {M : Type 0} → (M → ℕ → M) → Run M → List (Run M) → Type 0
Parted moves r [] = Unit {0}
Parted moves r (s ∷ rs) = run_end r ≡ s.offset → moves r.mark r.length ≢ s.mark

-- no run is followed at its end by its own mark moved on by its length
abbrev pub Apart : {M : Type 0} → (M → ℕ → M) → List (Run M) → Type 0
Apart moves [] = Unit {0}
Apart moves (r ∷ rs) = Parted moves r rs × Apart moves rs

pub record Canonical {M : Type 0} (moves : M → ℕ → M) (rs : List (Run M)) (size : ℕ) : Type 0 where
  pub rising : Rising 0 rs size
  pub apart : Apart moves rs

-- canonical runs of the states below a size
pub record RunsOf {M : Type 0} (moves : M → ℕ → M) (states : ℕ → Option M) (size : ℕ) (rs : List (Run M)) : Type 0 where
  pub canonical : Canonical moves rs size
  pub paints : (p : ℕ) → p < size → state_at moves rs p ≡ states p

-- canonical runs of a difference
pub record Runs {M : Type 0} (moves : M → ℕ → M) (ds : List (Option M)) (rs : List (Run M)) : Type 0 where
  pub canonical : Canonical moves rs (length ds)
  pub paints : run_states moves rs (length ds) ≡ ds

-- a position with a mark before runs: it lengthens the first of them where that goes on as it
unfoldable pub glue : {M : Type 0} → (M → ℕ → M) → (M → M → Bool) → ℕ → M → List (Run M) → List (Run M)
glue moves alike p m [] = record { offset = p; length = 1; mark = m } ∷ []
glue moves alike p m (r ∷ rs) =
    if p + 1 == r.offset && alike (moves m 1) r.mark then record { offset = p; length = 1 + r.length; mark = m } ∷ rs else record { offset = p; length = 1; mark = m } ∷ (r ∷ rs)

-- the canonical runs of the states from position p on
abbrev pub runs_from : {M : Type 0} → (M → ℕ → M) → (M → M → Bool) → ℕ → List (Option M) → List (Run M)
runs_from moves alike p [] = []
runs_from moves alike p (None ∷ ss) = runs_from moves alike (p + 1) ss
runs_from moves alike p (Some m ∷ ss) = glue moves alike p m (runs_from moves alike (p + 1) ss)

-- the canonical runs of the overlay of earlier runs below m by later runs below n
abbrev pub overlay_runs : {M : Type 0} → (M → ℕ → M) → (M → M → Bool) → M → List (Run M) → ℕ → List (Run M) → ℕ → List (Run M)
overlay_runs moves alike filler earlier m later n = runs_from moves alike 0 (overlay_states filler (run_states moves earlier m) (run_states moves later n))

-- the same run, its mark changed
abbrev pub with_mark : {M N : Type 0} → (M → N) → Run M → Run N
with_mark f r = record { offset = r.offset; length = r.length; mark = f r.mark }
