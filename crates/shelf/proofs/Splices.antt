-- Bytes that take the place of others, where the parts of the shelf's bytes are known; and the part
-- of the bytes that is handed in.
use Rattle.std.proofs.Common.{◌≡◌, ℕ, ◌+◌, ◌-◌, List, ◌++◌, length, take, drop, sym, refl, ap, ◌∙◌, arith}
use Rattle.std.proofs.lemmas.List.{append_assoc, length-append, take_at, drop_at}
use Rattle.stream.specs.Bytes.{field}
use Rattle.table.specs.Tables.{fill_after}
use Rattle.shelf.specs.Entries.{bytes_with}

-- the bytes from start up to end are b, and c lies after them up to the fill
module _ (h a b c tail : List ℕ) (fill start end : ℕ) (is : h ≡ a ++ (b ++ (c ++ tail)))
    (starts : length a ≡ start) (ends : start + length b ≡ end) (fills : end + length c ≡ fill) where
  front : take start h ≡ a
  front = ap (take start) is ∙ take_at a (b ++ (c ++ tail)) start starts

  behind : field h end (fill - end) ≡ c
  behind =
      let cut : h ≡ (a ++ b) ++ (c ++ tail) = is ∙ sym (append_assoc a b (c ++ tail)) in
      let dropped : drop end h ≡ c ++ tail = ap (drop end) cut ∙ drop_at (a ++ b) (c ++ tail) end (length-append a b ∙ omega arith) in
      ap (take (fill - end)) dropped ∙ take_at c tail (fill - end) (omega arith)

  pub spliced : (new : List ℕ) → bytes_with fill h start end new ≡ a ++ (new ++ (c ++ drop (fill_after fill start end (length new)) h))
  spliced new = rw (front, behind) refl
