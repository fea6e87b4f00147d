-- Applying a difference asks nothing of an image but its bytes at the kept positions. Rests on what
-- a difference makes of an image.
use Rattle.std.proofs.Common.{◌≡◌, ℕ, zero, suc, ◌<◌, List, [], ◌∷◌, length, get_or, Some, None, Option, sym, refl, ap, ◌∙◌, arith}
use Rattle.std.proofs.lemmas.List.{ext_get_or}
use Rattle.overlay.specs.States.{rest}
use Rattle.stream.specs.Meaning.{Cell, zeroed, written}
use Rattle.stream.specs.Difference.{byte_over, image_after}
use Rattle.apply.specs.Laws.{OnlyKept}

pub applied_length : (d : List (Option Cell)) (image : List ℕ) → length (image_after d image) ≡ length d
unfolding image_after
applied_length [] image = refl
applied_length (s ∷ ss) image = ap suc (applied_length ss (rest image))

-- the byte at a position
pub applied_getD : (d : List (Option Cell)) (image : List ℕ) (p : ℕ) → p < length d → get_or (image_after d image) p 0 ≡ byte_over (get_or image p 0) (get_or d p None)
unfolding image_after
applied_getD [] image p l = absurd (omega arith)
applied_getD (s ∷ ss) [] zero l = refl
applied_getD (s ∷ ss) (b ∷ bs) zero l = refl
applied_getD (s ∷ ss) [] (suc p) l = applied_getD ss [] p (omega arith)
applied_getD (s ∷ ss) (b ∷ bs) (suc p) l = applied_getD ss bs p (omega arith)

byte_same : (s : Option Cell) (x y : ℕ) → (s ≡ None → x ≡ y) → byte_over x s ≡ byte_over y s
byte_same None x y h = h refl
byte_same (Some zeroed) x y h = refl
byte_same (Some (written b)) x y h = refl

pub only_kept : OnlyKept
only_kept d b c h =
    ext_get_or 0 (image_after d b) (image_after d c) (applied_length d b ∙ sym (applied_length d c))
    (λ p l.
    let k : p < length d = omega (arith, applied_length d b) in
    applied_getD d b p k ∙ byte_same (get_or d p None) (get_or b p 0) (get_or c p 0) (h p k) ∙ sym (applied_getD d c p k))
