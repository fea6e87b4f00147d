-- The first bytes that a call is handed, and the window of a buffer that it is lent. Assumes
-- nothing.
use Rattle.std.proofs.Common.{◌≡◌, ℕ, ◌+◌, ◌-◌, min, List, ◌++◌, length, take, drop, ap, ◌∙◌, ap₂, arith, length-drop}
use borrow.Rule.Slice.PartMut.{put_mid, Post-is}
use Rattle.std.proofs.lemmas.List.{take_min, drop_min}
use Rattle.replay.specs.declared.requests.Window.{Window}
use Rattle.replay.specs.Replays.{window, with_window}

-- a number cut off at a list's length cuts the list where the number does
module _ (n k : ℕ) (xs : List ℕ) (e : k ≡ min n (length xs)) where
  take_cut : take k xs ≡ take n xs
  take_cut = ap (λ m. take m xs) e ∙ take_min n xs

  drop_cut : drop k xs ≡ drop n xs
  drop_cut = ap (λ m. drop m xs) e ∙ drop_min n xs

module _ (handed k : ℕ) (bytes : List ℕ) (e : k ≡ min handed (length bytes)) where
  pub handed_is : take (k - 0) bytes ≡ take handed bytes
  handed_is = take_cut handed (k - 0) bytes (omega arith)

  pub beyond_is : drop (k - 0) bytes ≡ drop handed bytes
  beyond_is = drop_cut handed (k - 0) bytes (omega arith)

module _ (v : Window) (a b : ℕ) (xs : List ℕ) (start : a ≡ min v.start (length xs)) (end : b ≡ min (v.start + v.length) (length xs)) where
  pub window_is : take (b - a) (drop a xs) ≡ window v xs
  window_is =
      ap (take (b - a)) (drop_cut v.start a xs start)
      ∙ take_cut v.length (b - a) (drop v.start xs) (omega (arith, length-drop v.start xs))

  pub with_is : (ys : List ℕ) → put_mid a (b - a) xs ys ≡ with_window v ys xs
  with_is ys =
      ap₂ (λ before behind. before ++ (ys ++ behind)) (take_cut v.start a xs start)
      (Post-is a b xs (omega arith) ∙ drop_cut (v.start + v.length) b xs end)
