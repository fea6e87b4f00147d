-- Applying differences to images. Assumes nothing.
use Rattle.std.proofs.Common.{◌≡◌, ℕ, [], ◌∷◌, Some, None, Option, refl, ap₂}
use Rattle.overlay.specs.States.{state_over, first_or, rest, overlay_states}
use Rattle.stream.specs.Meaning.{Cell, zeroed, written}
use Rattle.stream.specs.Difference.{byte_over, image_after}
use Rattle.join.specs.Laws.{AppliedInTurn}

-- the byte of a state over another is the later's byte over the earlier's
bytes_in_turn : (old : ℕ) (d e : Option Cell) → byte_over old (state_over e d) ≡ byte_over (byte_over old d) e
bytes_in_turn old d None = refl
bytes_in_turn old d (Some zeroed) = refl
bytes_in_turn old d (Some (written b)) = refl

pub applied_in_turn : AppliedInTurn
unfolding image_after overlay_states
applied_in_turn d [] image = refl
applied_in_turn [] (e ∷ es) image = ap₂ ◌∷◌ (bytes_in_turn (first_or 0 image) (Some zeroed) e) (applied_in_turn [] es (rest image))
applied_in_turn (d ∷ ds) (e ∷ es) image = ap₂ ◌∷◌ (bytes_in_turn (first_or 0 image) d e) (applied_in_turn ds es (rest image))
