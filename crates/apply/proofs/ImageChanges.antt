-- What changes inside an image leave as it was. Rests on the contract of a store, and on Inside.
use Rattle.std.proofs.Common.{◌≡◌, ℕ, ◌≤◌, List, length, sym, ◌∙◌, subst}
use Rattle.std.proofs.Math.Nat.{le_trans}
use Rattle.store.specs.Stores.{KeepsPast}
use Rattle.apply.specs.Inside.{OnlyInside}

module _ {S R : Type 0} (image : S → List ℕ) (past : S → ℕ → R) where
  pub both_inside : (a b c : S) → OnlyInside image past a b → OnlyInside image past b c → OnlyInside image past a c
  both_inside a b c one two = record {
    size = two.size ∙ one.size;
    rest = λ n h. two.rest n (subst (λ m. m ≤ n) (sym one.size) h) ∙ one.rest n h;
  }

  -- a call that keeps the size, and what lies past a place in the image
  pub inside_only : (old new : S) (n : ℕ) → (length (image new) ≡ length (image old)) × (n ≤ length (image old)) → KeepsPast past old new n → OnlyInside image past old new
  inside_only old new n b k = record { size = b.0; rest = λ m h. k m (le_trans b.1 h) }
