-- A list of which one element is removed, and those after it are then changed.
use Rattle.std.proofs.Common.{◌≡◌, ℕ, suc, ◌+◌, ◌-◌, ◌<◌, List, ◌++◌, length, take, drop, remove, sym, ap, ◌∙◌, arith}
use Rattle.std.proofs.lemmas.List.{append_assoc, take_at, take_all, drop_at, length-append, length-drop, length-take-le}
use Rattle.std.proofs.lemmas.List.Edits.{length-remove}
use Rattle.std.specs.List.{refill}

-- what was written, where it has as many elements
pub refill_is : {X : Type 0} (n : ℕ) (xs ws : List X) → length ws ≡ n → refill n xs ws ≡ ws
refill_is n xs ws e = take_at ws (drop (length ws) xs) n e

-- the list xs after `remove(k)` is left
module _ {X : Type 0} (xs left : List X) (k : ℕ) (l : k < length xs) (is : left ≡ remove xs k) where
  length_left : length left + 1 ≡ length xs
  length_left = ap (λ q. length q + 1) is ∙ length-remove xs k l

  length_front : length (take k xs) ≡ k
  length_front = length-take-le k xs (omega arith)

  front : take k left ≡ take k xs
  front = ap (take k) is ∙ take_at (take k xs) (drop (suc k) xs) k length_front

  -- those after it, which are lent
  pub lent : take (length left - k) (drop k left) ≡ drop (k + 1) xs
  lent =
      let next : suc k ≡ k + 1 = omega arith in
      take_all (length left - k) (drop k left) (omega (arith, length-drop k left))
      ∙ ap (drop k) is ∙ drop_at (take k xs) (drop (suc k) xs) k length_front ∙ ap (λ n. drop n xs) next

  -- and came back as ys
  pub closed : (n : ℕ) (ys post rest : List X) → n ≡ length left → length ys ≡ length (drop (k + 1) xs) → take n ((take k left ++ (ys ++ post)) ++ rest) ≡ take k xs ++ ys
  closed n ys post rest e ly =
      let p = take k left in
      let long : length (p ++ ys) ≡ n = omega (arith, length-append p ys, ap length front, length_front, length-drop (k + 1) xs, length_left) in
      ap (λ q. take n (q ++ rest)) (sym (append_assoc p ys post)) ∙ ap (take n) (append_assoc (p ++ ys) post rest)
      ∙ take_at (p ++ ys) (post ++ rest) n long ∙ ap (λ q. q ++ ys) front
