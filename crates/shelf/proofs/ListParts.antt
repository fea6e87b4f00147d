-- Lists taken apart at an index. Assumes nothing.
use Rattle.std.proofs.Common.{◌≡◌, ℕ, zero, suc, ◌+◌, ◌<◌, List, [], ◌∷◌, ◌++◌, length, refl, ap, arith}

-- a list around its items i and i + 1
pub record AroundTwo {X : Type 0} (xs : List X) (i : ℕ) : Type 0 where
  pub before : List X
  pub here : X
  pub next : X
  pub behind : List X
  pub whole : xs ≡ before ++ (here ∷ next ∷ behind)
  pub count : length before ≡ i

pub around_two : {X : Type 0} (xs : List X) (i : ℕ) → i + 1 < length xs → AroundTwo xs i
around_two [] i l = absurd (omega arith)
around_two (x ∷ []) i l = absurd (omega arith)
around_two (x ∷ y ∷ xs) zero l = record { before = []; here = x; next = y; behind = xs; whole = refl; count = refl }
around_two (x ∷ y ∷ xs) (suc i) l =
    let a = around_two (y ∷ xs) i (omega arith) in
    record { before = x ∷ a.before; here = a.here; next = a.next; behind = a.behind; whole = ap (λ ys. x ∷ ys) a.whole; count = ap suc a.count }
