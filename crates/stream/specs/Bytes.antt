-- Numbers in bytes, parts of byte lists, and what a buffer holds after bytes were put into it.
-- Rests on nothing.
use Rattle.std.specs.Prelude.{ℕ, zero, suc, ◌+◌, ◌*◌, ◌/◌, ◌%◌, List, [], ◌∷◌, ◌++◌, length, take, drop}

-- the number that bytes write, lowest byte first
abbrev pub le : List ℕ → ℕ
le [] = 0
le (b ∷ bs) = b + 256 * le bs

-- the n bytes of a number, lowest byte first
abbrev pub le_bytes : ℕ → ℕ → List ℕ
le_bytes zero v = []
le_bytes (suc n) v = v % 256 ∷ le_bytes n (v / 256)

-- the n bytes of xs from at on
abbrev pub field : List ℕ → ℕ → ℕ → List ℕ
field xs at n = take n (drop at xs)

-- what a buffer holds after the bytes bs were put into it from a place on
abbrev pub buffer_with : List ℕ → ℕ → List ℕ → List ℕ
buffer_with xs at bs = take at xs ++ (bs ++ drop (at + length bs) xs)
