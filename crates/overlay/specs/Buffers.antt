-- Runs in a buffer that a caller lends: how many there are, and what the buffer then holds. Rests
-- on Runs and on sheets.
use Rattle.std.specs.Prelude.{◌≡◌, ℕ, ◌+◌, ◌*◌, ◌≤◌, true, if◌then◌else◌, List, ◌++◌, length, take, drop, Some, None, Option, is_some, nat_le, Bool}
use Rattle.overlay.specs.declared.runs.Run.{Run}
use Rattle.overlay.specs.declared.sheets.Sheet.{Sheet}
use Rattle.overlay.specs.Runs.{overlay_state_at, overlay_runs, RunsOf}

-- how many runs there are, or None where the buffer has fewer places
abbrev pub run_count : {X : Type 0} → List X → List X → Option ℕ
run_count runs buffer = if nat_le (length runs) (length buffer) then Some (length runs) else None

-- The buffer with the runs in its first places, as many of them as there are places. The places
-- after them are as they were.
abbrev pub first_places : {X : Type 0} → List X → List X → List X
first_places runs buffer = take (length buffer) runs ++ drop (length runs) buffer

-- some runs with a property are counted, and stand in the first places of the buffer
pub record Fills {M : Type 0} (Property : List (Run M) → Type 0)
    (result : Option ℕ) (before after : List (Run M)) : Type 0 where
  pub runs : List (Run M)
  pub count : result ≡ run_count runs before
  pub places : after ≡ first_places runs before
  pub holds : Property runs

-- the canonical runs of the overlay of an earlier sheet by a later one
abbrev pub sheet_runs : {M : Type 0} → (M → ℕ → M) → (M → M → Bool) → M → Sheet M → Sheet M → List (Run M)
sheet_runs moves alike filler earlier later = overlay_runs moves alike filler earlier.runs.now earlier.size later.runs.now later.size

-- What the overlay of an earlier sheet by a later one returns, and what the buffer then holds.
-- There is room where the buffer has two places for each run given, and two more.
pub record OverlayAnswer {M : Type 0} (moves : M → ℕ → M) (alike : M → M → Bool) (filler : M)
    (earlier later : Sheet M) (result : Option ℕ) (before after : List (Run M)) : Type 0 where
  pub count : result ≡ run_count (sheet_runs moves alike filler earlier later) before
  pub places : after ≡ first_places (sheet_runs moves alike filler earlier later) before
  pub runs : RunsOf moves (overlay_state_at moves filler earlier.runs.now earlier.size later.runs.now) later.size (sheet_runs moves alike filler earlier later)
  pub room : 2 * (length earlier.runs.now + length later.runs.now) + 2 ≤ length before → is_some result ≡ true
