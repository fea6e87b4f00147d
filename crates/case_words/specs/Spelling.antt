-- How bytes are spelled in a line of a case: two hexadecimal digits for each byte. Rests on the
-- digits.
use Rattle.std.specs.Prelude.{ℕ, ◌*◌, ◌/◌, ◌%◌, List, [], ◌∷◌, length, take}
use Rattle.std.specs.List.{flat_map}
use Rattle.case_words.specs.Digits.{digit_of}

abbrev pub digits_of : List ℕ → List ℕ
digits_of bytes = flat_map (λ b. digit_of (b / 16) ∷ (digit_of (b % 16) ∷ [])) bytes

-- the word of bytes: their digits, and a lone `-` where there are none
abbrev pub word_of : List ℕ → List ℕ
word_of [] = 45 ∷ []
word_of (b ∷ bs) = digits_of (b ∷ bs)

-- the pairs of a word from its first character on: a last character without a second, as the lone
-- `-` is, belongs to none
abbrev pub pairs_in : List ℕ → List ℕ
pairs_in word = take (2 * (length word / 2)) word
