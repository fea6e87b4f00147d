-- How the overlay walks two lists of runs and adds to a third: the runs that are left, pieces of
-- even states, edges to pass, and what adding a run or a piece does. Rests on Runs.
use Rattle.std.specs.Prelude.{◌≡◌, ℕ, ◌+◌, ◌-◌, ◌<◌, ◌≤◌, if◌then◌else◌, List, [], ◌∷◌, length, Some, None, Option, nat_le, nat_lt}
use Rattle.overlay.specs.declared.runs.Run.{Run}
use Rattle.overlay.specs.declared.runs.Piece.{Piece}
use Rattle.overlay.specs.States.{state_over}
use Rattle.overlay.specs.Runs.{run_end, run_at, state_at, Rising, Apart, Canonical}

-- the state of the position k further, where the marks move on
abbrev pub moved_state : {M : Type 0} → (M → ℕ → M) → Option M → ℕ → Option M
moved_state moves None k = None
moved_state moves (Some m) k = Some (moves m k)

-- the runs without the first of them, as long as these end by pos
abbrev pub runs_left : {M : Type 0} → ℕ → List (Run M) → List (Run M)
runs_left pos [] = []
runs_left pos (r ∷ rs) = if nat_le (run_end r) pos then runs_left pos rs else r ∷ rs

-- the first run ends after pos
abbrev pub Ahead : {M : Type 0} → ℕ → List (Run M) → Type 0
Ahead pos [] = Unit {0}
Ahead pos (r ∷ rs) = pos < run_end r

-- from pos up to the piece's end, the states are the piece's state moved on
pub record Even {M : Type 0} (moves : M → ℕ → M) (states : ℕ → Option M) (pos size : ℕ) (piece : Piece M) : Type 0 where
  pub more : pos < piece.stop
  pub under : piece.stop ≤ size
  pub same : (p : ℕ) → pos ≤ p → p < piece.stop → states p ≡ moved_state moves piece.state (p - pos)

-- 1 where q lies after p
abbrev pub tick : ℕ → ℕ → ℕ
tick p q = if nat_lt p q then 1 else 0

-- how many offsets and ends of runs lie after a position
abbrev pub edges_after : {M : Type 0} → ℕ → List (Run M) → ℕ
edges_after p [] = 0
edges_after p (r ∷ rs) = tick p r.offset + tick p (run_end r) + edges_after p rs

-- the same, and the size where it lies after the position
unfoldable pub edges : {M : Type 0} → ℕ → List (Run M) → ℕ → ℕ
edges p rs size = edges_after p rs + tick p size

-- The first piece of runs from a position on: its states are even, and it passes an edge, so that a
-- walk ends.
pub record FirstPiece {M : Type 0} (moves : M → ℕ → M) (runs : List (Run M)) (size pos : ℕ) (piece : Piece M) : Type 0 where
  pub even : Even moves (state_at moves runs) pos size piece
  pub nears : edges piece.stop runs size < edges pos runs size

-- runs of which some are left: from pos on these give each position what all of them give it, and
-- have the same edges
pub record Left {M : Type 0} (moves : M → ℕ → M) (runs : List (Run M)) (pos : ℕ) (left : List (Run M)) : Type 0 where
  pub same : (p : ℕ) → pos ≤ p → state_at moves left p ≡ state_at moves runs p
  pub edges : (p : ℕ) → pos ≤ p → edges_after p left ≡ edges_after p runs

-- a run is added to runs that end at or before its offset
pub record Pushed {M : Type 0} (moves : M → ℕ → M) (before : List (Run M)) (r : Run M) (after : List (Run M)) : Type 0 where
  pub rising : Rising 0 after (run_end r)
  pub apart : Apart moves after
  pub paints : (p : ℕ) → state_at moves after p ≡ state_over (state_at moves before p) (run_at moves r p)
  pub keeps : length before ≤ length after
  pub grows : length after ≤ length before + 1

-- runs up to pos, and those up to the piece's end after it was added
pub record Grown {M : Type 0} (moves : M → ℕ → M) (before : List (Run M)) (pos : ℕ) (piece : Piece M) (after : List (Run M)) : Type 0 where
  pub canonical : Canonical moves after piece.stop
  pub keeps : length before ≤ length after
  pub grows : length after ≤ length before + 1
  pub old : (p : ℕ) → p < pos → state_at moves after p ≡ state_at moves before p
  pub new : (p : ℕ) → pos ≤ p → p < piece.stop → state_at moves after p ≡ moved_state moves piece.state (p - pos)
