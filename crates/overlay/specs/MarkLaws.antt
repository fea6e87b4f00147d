-- What each kind of mark keeps. Rests on nothing.
use Rattle.std.specs.Prelude.{◌≡◌, ℕ, ◌+◌, ◌%◌, ◌^◌, Bool, Decides}

-- The comparison is the test `alike`, which says yes exactly if two marks are the same. Moving on
-- by 0 changes nothing, moving on twice is moving on once, modulo 2^64, and the filler moves on to
-- itself.
pub record LawfulMarks {M : Type 0} (eq alike : M → M → Bool) (moves : M → ℕ → M) (filler : M) : Type 0 where
  pub equals : (m n : M) → eq m n ≡ alike m n
  pub decides : (m n : M) → Decides (alike m n) (m ≡ n)
  pub still : (m : M) → moves m 0 ≡ m
  pub further : (m : M) (a b : ℕ) → moves (moves m a) b ≡ moves m ((a + b) % 2 ^ 64)
  pub rests : (k : ℕ) → moves filler k ≡ filler
