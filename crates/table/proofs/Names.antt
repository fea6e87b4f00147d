-- Names that are compared.
use Rattle.std.proofs.Common.{◌≡◌, ℕ, eqb, ◌&&◌, List, [], ◌∷◌, refl, ap}
use lib.Pointwise.{pointwise}
use Rattle.stream.specs.Verdict.{same}

-- `==` of two slices of bytes
pub same_is : (a b : List ℕ) → pointwise eqb a b ≡ same a b
same_is [] [] = refl
same_is [] (y ∷ b) = refl
same_is (x ∷ a) [] = refl
same_is (x ∷ a) (y ∷ b) = ap (λ q. eqb x y && q) (same_is a b)
