-- A difference is the list of the states of its positions: None keeps a position, Some m sets it to
-- what the mark m means. Its length is the size. The join of differences is one rule, for every
-- kind of mark. Rests on std's options.
use Rattle.std.specs.Prelude.{List, [], ◌∷◌, Some, None, Option}

-- the later state, unless it keeps the position
abbrev pub state_over : {M : Type 0} → Option M → Option M → Option M
state_over None earlier = earlier
state_over (Some m) earlier = Some m

-- the first of a list, or another where there is none
abbrev pub first_or : {X : Type 0} → X → List X → X
first_or other [] = other
first_or other (x ∷ xs) = x

-- what follows the first
abbrev pub rest : {X : Type 0} → List X → List X
rest [] = []
rest (x ∷ xs) = xs

-- The join of an earlier difference and a later one, whose size it has. What the later keeps past
-- the earlier size is the filler, the mark of a byte that only regrowth made.
unfoldable pub overlay_states : {M : Type 0} → M → List (Option M) → List (Option M) → List (Option M)
overlay_states filler earlier [] = []
overlay_states filler earlier (later ∷ ls) = state_over later (first_or (Some filler) earlier) ∷ overlay_states filler (rest earlier) ls

-- the join of one difference and those that follow it, oldest first
unfoldable pub overlay_states_all : {M : Type 0} → M → List (Option M) → List (List (Option M)) → List (Option M)
overlay_states_all filler oldest [] = oldest
overlay_states_all filler oldest (next ∷ ds) = overlay_states_all filler (overlay_states filler oldest next) ds
