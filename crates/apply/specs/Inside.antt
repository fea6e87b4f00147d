-- Changes inside an image alone. Rests on the contract of a store.
use Rattle.std.specs.Prelude.{◌≡◌, ℕ, List, length}
use Rattle.store.specs.Stores.{KeepsPast}

-- the image keeps its size, and past it the memory stays as it was
pub record OnlyInside {S R : Type 0} (image : S → List ℕ) (past : S → ℕ → R) (old new : S) : Type 0 where
  pub size : length (image new) ≡ length (image old)
  pub rest : KeepsPast past old new (length (image old))
